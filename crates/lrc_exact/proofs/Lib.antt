pub mod LocalRules
