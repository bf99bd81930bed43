-- The check of a recording, in reading order: the line of a file, then what segments and workers contribute to it.
pub mod Difference
pub mod Verdict
pub mod Line
pub mod Headline
pub mod Versions
pub mod HeadlineWithDisk
pub mod Laws
pub mod Segment
pub mod Collecting
pub mod Work
pub mod Gathering
pub mod inner
