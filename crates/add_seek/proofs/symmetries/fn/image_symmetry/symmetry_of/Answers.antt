-- The test of `add_seek::symmetries::image_symmetry`: image t is the leaf mirrored by t. Assumes nothing.
use Rattle.std.proofs.Common.{ap, ◌∙◌, List, ℕ, eqb, get_or}
use Rattle.add_seek.proofs.FindLeaves.{image-at}
use Rattle.add_seek.proofs.symmetries.fn.image_symmetry.symmetry_of.Goals as goal

pub returns : goal.returns
returns c = ap (eqb c.captures.leaf) (ap (λ (i : List ℕ). get_or i c.args.t 0) c.requires.given ∙ image-at c.captures.leaf c.args.t c.requires.below)
