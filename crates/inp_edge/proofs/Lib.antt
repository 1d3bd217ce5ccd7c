mod FileLemmas
mod SinkLemmas
mod Untold
