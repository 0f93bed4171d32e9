-- The three histories are legal.
use Rattle.std.proofs.Common.{refl}
use Rattle.world_laws.specs.WriteSkew.{WriteSkewIsAllowed}

pub write_skew_is_allowed : WriteSkewIsAllowed
write_skew_is_allowed = record {
  woven = (refl, (refl, (refl, (refl, (refl, (refl, (refl, (refl, tt))))))));
  one_first = (refl, (refl, (refl, (refl, (refl, (refl, (refl, (refl, tt))))))));
  two_first = (refl, (refl, (refl, (refl, (refl, (refl, (refl, (refl, tt))))))));
}
