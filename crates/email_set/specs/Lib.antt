pub mod Patches
pub mod Filings
pub mod Emails
pub mod Plans
pub mod OneUpdates
pub mod Views
