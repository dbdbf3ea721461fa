-- Whom a packed file is for. Definitions only.
use Rattle.std.specs.Prelude.{Bool, true, false}
use Rattle.pack.specs.declared.call.Profile.{Profile}
use Rattle.pack.specs.declared.call.Profile.TheVariants.{Any, Headset}

abbrev pub for_headset : Profile → Bool
for_headset Any = false
for_headset Headset = true
