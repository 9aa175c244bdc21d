-- What contracts see of the tables of a content with their orders.
use Rattle.std.specs.Prelude.{ℕ, List}
use Rattle.mail_records.specs.declared.records.Email.{Email}

-- the emails, for how many more there is room in the table and in the orders with one entry an
-- email, and for how many entries there is room in the orders by mailbox and by link
pub record EmailRows : Type 0 where
  pub rows : List Email
  pub spare : ℕ
  pub placed : ℕ
  pub linked : ℕ
