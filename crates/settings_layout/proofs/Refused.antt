-- Bytes that are no settings are bad settings. Assumes nothing.
use Prim.Native.Nat.{ℕ, ◌<◌, ◌≤◌}
use mathlib.Core.Path.{◌≡◌, refl, ap, ◌∙◌}
use mathlib.Core.Logic.{◌≢◌}
use mathlib.Core.Bool.{true, false}
use mathlib.Core.List.{List}
use native.Mathlib.Omega.{arith}
use lib.Dec.{leb}
use lib.ListN.{length}
use borrow.Author.Tests.{eq-eqb, ne_eqb, leb-true, leb-false}
use Rattle.laws.proofs.Tests.{split}
use Rattle.laws.proofs.Laws.{any_hit}
use Rattle.partitions.specs.declared.Entry.{Entry}
use Rattle.partitions.specs.declared.Link.TheVariants.{OwnedBy}
use Rattle.partitions.specs.Settings.{entry_at, good_settings}
use Rattle.partitions.specs.Parts.{wrong_entry}
use Rattle.partitions.specs.Table.{table_of}
use Rattle.partitions.proofs.Tables.{table_at}
use Rattle.partitions.proofs.Laws.{good_over, good_wrong, wrong_link, link_up}
use Rattle.settings_layout.specs.Layout.{byte_at, link_from, entry_from, entry_bytes, entry_in, count_from, used_of, settings_of, settings_from}

pub settings_length : (b : List ℕ) (len : ℕ) → length b ≢ 550 → good_settings (settings_from b) len ≡ false
unfolding settings_from settings_of
settings_length b len h = good_over (settings_from b) len (rw (ne_eqb (length b) 550 h) (omega arith))

-- ---- a used entry's link of another tag

other_link : (tag index : ℕ) → 2 < tag → link_from tag index ≡ OwnedBy 255
unfolding link_from
other_link tag index h =
    simp (ne_eqb tag 0 (omega arith), ne_eqb tag 1 (omega arith), ne_eqb tag 2 (omega arith))

-- an entry that is owned by 255 is wrong by its link
owned_wrong : (table : List Entry) (len k : ℕ) → k ≤ 255 → (entry_at table k).link ≡ OwnedBy 255 → wrong_entry table len k ≡ true
owned_wrong table len k l e =
    wrong_link table len k (link_up table k (rw e refl) (rw e l))

entry_link : (b : List ℕ) (k : ℕ) → (entry_in b k).link ≡ link_from (byte_at (entry_bytes b k) 31) (byte_at (entry_bytes b k) 32)
unfolding entry_in entry_from
entry_link b k = refl

-- settings of which entry k is used and has a link of another tag than 0, 1 and 2
pub link_tag_lem : (b : List ℕ) (len k : ℕ) → length b ≡ 550 → k < byte_at b 5 → 2 < byte_at (entry_bytes b k) 31 → good_settings (settings_from b) len ≡ false
unfolding settings_from settings_of
link_tag_lem b len k e used tag =
    let n = byte_at b 5 in
    let s = settings_from b in
    let same : count_from b ≡ n = rw (eq-eqb (length b) 550 e) refl in
    (split (leb n 16)
    (λ q.
    let l = leb-true n 16 q in
    let t = table_of (entry_in b) n in
    let u : used_of (count_from b) ≡ n = ap used_of same ∙ rw q refl in
    let at : entry_at t k ≡ entry_in b k = table_at (entry_in b) n k l used in
    let own : (entry_at t k).link ≡ OwnedBy 255 = ap (λ (x : Entry). x.link) at ∙ entry_link b k ∙ other_link _ _ tag in
    good_wrong s len (rw (u, same) (any_hit (wrong_entry t len) n k used (owned_wrong t len k (omega arith) own))))
    (λ q. good_over s len (rw same (leb-false n 16 q))))
