-- What a page does once its block is accepted. Assumes nothing.
use Rattle.std.specs.Prelude.{Bool, cond}
use Rattle.transfer.specs.declared.Deed.{Deed}
use Rattle.transfer.specs.declared.Deed.TheVariants.{Stores, Keeps}

-- what a page does, where it is kept or not
abbrev pub page_deed : Bool → Deed
page_deed kept = cond kept Keeps Stores
