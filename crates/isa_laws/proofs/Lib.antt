pub mod DecodingsApart
pub mod Back
pub mod Forth
pub mod RoundTrip
