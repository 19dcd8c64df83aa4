-- `Written` and `Cases`: the table of cases. `Rows` and `Listed`: the table of refusals and the listed results in the documents' words. `Runs` and `Sound`: what the demands speak of. `Records`: what A8 speaks of. `Settings`: what document 02's A3 does. `Rounds`: a call point by point (A7). `PairRuns` and `PairSound`: what `Runs` and `Sound` are, of pairs, and what a side notices (A4). `Useless`: builds that they stop.
pub mod Written
pub mod Cases
pub mod Rows
pub mod Listed
pub mod Runs
pub mod Sound
pub mod Records
pub mod Settings
pub mod Rounds
pub mod PairRuns
pub mod PairSound
pub mod Useless
