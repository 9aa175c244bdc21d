pub mod EmailsLeft
pub mod PresentMailboxes
pub mod Updates
pub mod Views
pub mod UpdateViews
