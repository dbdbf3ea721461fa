-- Claim C17, the headset profile: the laws of the check, of long pointers and of the packing. Assumes nothing.
use Rattle.paper.specs.Claims.{C17}
use Rattle.laws.proofs.LongPointers.{proper-short}
use Rattle.laws.proofs.HeadsetCheck.{headset-checked, headset-checks, headset-scratch}
use Rattle.laws.proofs.HeadsetPack.{ordinary, refused, passes, packs, pack_scratch_lem}

pub claim17 : C17
claim17 = record {
  checked = headset-checked;
  long = proper-short;
  ordinary = ordinary;
  refused = refused;
  passes = passes;
  packs = packs;
  checks = headset-checks;
  pack_scratch_lem = pack_scratch_lem;
  check_scratch = headset-scratch;
}
