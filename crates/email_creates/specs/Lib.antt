pub mod Properties
pub mod Errors
pub mod Emails
pub mod Plans
pub mod NewEmails
pub mod Views
