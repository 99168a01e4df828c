pub mod Dues
pub mod Histories
pub mod Mailboxes
pub mod Puts
