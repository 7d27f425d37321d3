pub mod Back
pub mod RoundTrip
pub mod Stations
pub mod ReadWrite
pub mod Sizes
pub mod Checkable
pub mod Longer
pub mod FilesApart
