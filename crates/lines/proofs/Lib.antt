-- Laws of what `lines` puts on a page.
pub mod One
pub mod Pages
pub mod Seen
