-- Every row of the table of places holds: one equation, computed. Assumes nothing.
use mathlib.Core.Path.{refl}
use Rattle.laws.specs.Sets.{any}
use Rattle.memory.specs.Flash.{flash_length}
use Rattle.partitions.specs.Settings.{has_user, accepts, overlap, overlap_at, shares_sector, reserved_user, bad_entry, good_settings}
use Rattle.placement.specs.Place.{pass_query_of, pass_allows, pass_takes, first_of, entry_if, in_pass, chosen, chosen_entry, place_of, ask_of}
use Rattle.settings_claims.specs.Places.{numbered, asked, cases, PlacesHold}

pub places_hold : PlacesHold
unfolding PlacesHold cases numbered asked any flash_length has_user accepts overlap overlap_at shares_sector reserved_user bad_entry good_settings pass_query_of pass_allows pass_takes first_of entry_if in_pass chosen chosen_entry place_of ask_of
places_hold = refl
