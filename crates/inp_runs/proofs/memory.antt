-- What a line leaves of a job: a view of the device's size, a sight that tells of its calls, or no job for
-- want of memory.
pub mod Memory
pub mod ReaderTalks
pub mod LineTalks
