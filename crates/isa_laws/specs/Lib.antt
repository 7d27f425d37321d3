pub mod DecodingsApart
pub mod RoundTrip
