pub mod PlaceReply
