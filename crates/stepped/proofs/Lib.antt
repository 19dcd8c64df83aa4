-- `Seen`: what is seen of a filter in a stepped call. `Ways`: the laws between a stepped call and the whole-list call that it is. `Steps`: ask and image as the code takes them.
pub mod Seen
pub mod Ways
pub mod Steps
