-- Every claim of the paper, in order, each by the law that proves it. Assumes nothing.
use Rattle.paper.specs.Claims.{C1, C2, C3, C4, C5, C6, C7, C8, C9, C10, C11, C12, C13, C14, C15, C16, C17}
use Rattle.paper.proofs.Samples as Samples
use Rattle.laws.proofs.MirrorClaim as MirrorClaim
use Rattle.laws.proofs.OutlineClaim as OutlineClaim
use Rattle.laws.proofs.RunClaims as RunClaims
use Rattle.laws.proofs.PackClaim as PackClaim
use Rattle.laws.proofs.PackedClaims as PackedClaims
use Rattle.laws.proofs.OpenClaim as OpenClaim
use Rattle.laws.proofs.Unseen as Unseen
use Rattle.laws.proofs.WalkClaim as WalkClaim
use Rattle.laws.proofs.SightClaim as SightClaim
use Rattle.laws.proofs.CountClaim as CountClaim
use Rattle.laws.proofs.AnyClaim as AnyClaim
use Rattle.laws.proofs.ChainClaim as ChainClaim
use Rattle.laws.proofs.HeadsetClaim as HeadsetClaim
use Rattle.detail.proofs.Claims as DetailClaim

-- mirror laws
pub claim1 : C1
claim1 = MirrorClaim.claim1

-- one room for each file
pub claim2 : C2
claim2 = OutlineClaim.claim2

-- the match rule agrees with the voxels
pub claim3 : C3
claim3 = RunClaims.claim3

-- demand 3
pub claim4 : C4
claim4 = RunClaims.claim4

-- answers are the room's
pub claim5 : C5
claim5 = RunClaims.claim5

-- packing
pub claim6 : C6
claim6 = PackClaim.claim6

-- proper files
pub claim7 : C7
claim7 = PackedClaims.claim7

-- opened scenes
pub claim8 : C8
claim8 = OpenClaim.claim8

-- detail
pub claim9 : C9
claim9 = DetailClaim.claim9

-- samples
pub claim10 : C10
claim10 = Samples.samples-hold

-- what is not looked at
pub claim11 : C11
claim11 = Unseen.claim11

-- what a walk tells
pub claim12 : C12
claim12 = WalkClaim.claim12

-- sight lines
pub claim13 : C13
claim13 = SightClaim.claim13

-- solid counts
pub claim14 : C14
claim14 = CountClaim.claim14

-- anything in the way
pub claim15 : C15
claim15 = AnyClaim.claim15

-- chains
pub claim16 : C16
claim16 = ChainClaim.claim16

-- the headset profile
pub claim17 : C17
claim17 = HeadsetClaim.claim17
