pub mod NoterLemmas
mod SignLemmas
