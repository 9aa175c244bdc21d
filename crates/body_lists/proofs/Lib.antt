mod ListFacts
