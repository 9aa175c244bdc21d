pub mod TestRules
pub mod TestRulesLaws
