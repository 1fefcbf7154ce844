use Rattle.format.proofs.RoundTrip.{decode_encode, encode_decode}
use Rattle.format.proofs.laws.round_trip.Goals as goal

pub returns : goal.returns
returns c = record { there = decode_encode; back = encode_decode }
