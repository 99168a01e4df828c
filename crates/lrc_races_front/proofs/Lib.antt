mod FrontLemmas
mod KeptLemmas
