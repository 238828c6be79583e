-- Every file of the table is answered as it says: one equation, computed. Assumes nothing.
use mathlib.Core.Path.{refl}
use Rattle.laws.specs.Bytes.{low_first, number_in}
use Rattle.laws.specs.Over.{over}
use Rattle.laws.specs.Sets.{any, least}
use Rattle.memory.specs.Flash.{flash_length}
use Rattle.uf2_block.specs.Block.{field_at, fields_of, flagged_of, header_of}
use Rattle.uf2_block.specs.Region.{region_of}
use Rattle.uf2_block.specs.Regions.{good_region}
use Rattle.partitions.specs.Settings.{has_user, accepts, overlap, overlap_at, shares_sector, reserved_user, bad_entry, good_settings}
use Rattle.placement.specs.Place.{pass_query_of, pass_allows, pass_takes, first_of, entry_if, in_pass, chosen, chosen_entry, place_of, ram_family, ask_of}
use Rattle.uf2_checks.specs.Screen.{window_of, note_kind, placed, strayed, noted, data_found, note_found, found, screen_in, screen_of}
use Rattle.arrival.specs.Arrive.{right_lengths}
use Rattle.file_check.specs.Check.{piece_at, beside_of, fault_at, whole_of, pieces_of, right_maps, check_of}
use Rattle.examples.specs.CheckFiles.{file_examples, FileExamplesHold}

pub file_examples_hold : FileExamplesHold
unfolding FileExamplesHold file_examples any least flash_length over low_first number_in field_at fields_of flagged_of header_of region_of good_region has_user accepts overlap overlap_at shares_sector reserved_user bad_entry good_settings pass_query_of pass_allows pass_takes first_of entry_if in_pass chosen chosen_entry place_of ram_family ask_of window_of note_kind placed strayed noted data_found note_found found screen_in screen_of right_lengths piece_at beside_of fault_at whole_of pieces_of right_maps check_of
file_examples_hold = refl
