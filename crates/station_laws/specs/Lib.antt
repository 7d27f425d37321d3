pub mod RoundTrip
pub mod Stations
pub mod ReadWrite
pub mod Sizes
pub mod Checkable
pub mod FilesApart
pub mod Longer
