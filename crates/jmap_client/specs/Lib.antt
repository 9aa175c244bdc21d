pub mod ClientDeeds
pub mod ClientFaults
pub mod ClientSights
pub mod Printing
pub mod Showing
pub mod Syncing
