-- Of who is sent what, and that nothing is unexpected.
pub mod Receivers
pub mod ReceiverWorlds
pub mod AllExpected
