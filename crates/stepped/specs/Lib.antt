-- `Ways`: what lies between a stepped call and the whole-list call that it is.
pub mod Ways
