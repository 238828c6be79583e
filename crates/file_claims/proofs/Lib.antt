mod Made
pub mod Delivery
pub mod Instance
pub mod Refusals
pub mod MadeCheck
-- The proofs of the claims.
pub mod Places
pub mod Calls
pub mod Laid
pub mod Acme
pub mod Answers
pub mod RegiondeliveryMade
pub mod RegiondeliveryDelivery
