-- Claim C1, the mirror laws, once over the edge: a mirror twice is nothing, two in a row are their exclusive or, child i of a mirrored cell is the
-- mirrored child (i xor t). From the laws of mirrors. Assumes nothing.
use Rattle.paper.specs.Claims.{C1}
use Rattle.laws.proofs.Mirrors.{mirror-twice, mirror-mirror, child-mirrored}

pub claim1 : C1
claim1 = record {
  twice = mirror-twice;
  in_a_row = λ t u S v ht hu l. mirror-mirror t u S v ht hu l;
  child = λ t i S r ht hi. child-mirrored i t S r hi ht;
}
