pub mod TellerLemmas
mod AnswerLemmas
mod ByLine
mod LocationLemmas
mod Paths
mod Reached
mod SeekerLemmas
mod StrictLemmas
mod HearingLemmas
mod KnownLemmas
mod NotedLemmas
mod ScoreLemmas
