-- Every example of the tables holds: one equation each, computed. Assumes nothing.
use mathlib.Core.Path.{refl}
use Rattle.memory.specs.Many.{many}
use Rattle.laws.specs.Bytes.{low_first, number_in}
use Rattle.laws.specs.Over.{over}
use Rattle.laws.specs.Sets.{any}
use Rattle.memory.specs.Bitmap.{bit, with_bit, marked_in, with_mark, unmarked}
use Rattle.memory.specs.Flash.{flash_length, erase_at, payload_of, store_at}
use Rattle.uf2_block.specs.Block.{field_at, fields_of, flagged_of, header_of}
use Rattle.partitions.specs.Settings.{has_user, accepts, overlap, overlap_at, shares_sector, reserved_user, bad_entry, good_settings}
use Rattle.placement.specs.Place.{pass_query_of, pass_allows, pass_takes, first_of, entry_if, in_pass, chosen, chosen_entry, place_of, ram_family, ask_of}
use Rattle.transfer.specs.Transfer.{good_state, same_head, counted, raised, accepted, step_of}
use Rattle.uf2_checks.specs.Screen.{window_of, note_kind, placed, strayed, noted, data_found, note_found, found, screen_in, screen_of}
use Rattle.arrival.specs.Arrive.{right_lengths, stands_at, after_screening, decide, cleared_if, wiped_if, prepared_at, paged_at, accept_of, done, receive_of}
use Rattle.arrival.specs.Lists.{receive_all, answers_of, discards_of}
use Rattle.instances.specs.Comments.{comment_examples, CommentExamplesHold}
use Rattle.instances.specs.Ram.{ram_examples, RamExamplesHold}

pub comment_examples_hold : CommentExamplesHold
unfolding CommentExamplesHold comment_examples many any bit with_bit marked_in with_mark unmarked flash_length over erase_at payload_of store_at low_first number_in field_at fields_of flagged_of header_of has_user accepts overlap overlap_at shares_sector reserved_user bad_entry good_settings pass_query_of pass_allows pass_takes first_of entry_if in_pass chosen chosen_entry place_of ram_family ask_of good_state same_head counted raised accepted step_of window_of note_kind placed strayed noted data_found note_found found screen_in screen_of right_lengths stands_at after_screening decide cleared_if wiped_if prepared_at paged_at accept_of done receive_of receive_all answers_of discards_of
comment_examples_hold = refl

pub ram_examples_hold : RamExamplesHold
unfolding RamExamplesHold ram_examples many any bit with_bit marked_in with_mark unmarked flash_length over erase_at payload_of store_at low_first number_in field_at fields_of flagged_of header_of has_user accepts overlap overlap_at shares_sector reserved_user bad_entry good_settings pass_query_of pass_allows pass_takes first_of entry_if in_pass chosen chosen_entry place_of ram_family ask_of good_state same_head counted raised accepted step_of window_of note_kind placed strayed noted data_found note_found found screen_in screen_of right_lengths stands_at after_screening decide cleared_if wiped_if prepared_at paged_at accept_of done receive_of receive_all answers_of discards_of
ram_examples_hold = refl
