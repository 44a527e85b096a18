-- Document 03's definitions, word for word: read Scheme, Service, Promise, Entry. Only module paths differ, each header's first line is
-- added, and Entry has 32 and a line on rounds. Counts is what document 02's item 2 makes of its demands. Ours and Conform are our own: our
-- words for its words, and our statements about its service.
pub mod Scheme
pub mod Service
pub mod Promise
pub mod Counts
pub mod Entry
pub mod Ours
pub mod Conform
