pub mod ActsText
pub mod Printed
pub mod JudgeLines
