-- Rows 12 to 17 beside the step of the transfer. Assumes nothing.
use Rattle.std.specs.Prelude.{Ok, Err}
use mathlib.Core.Path.{◌≡◌, refl, ap, ◌∙◌}
use mathlib.Core.Bool.{Bool, true, false, cond, not, ◌&&◌}
use mathlib.Core.List.{List}
use Prim.Native.Nat.{ℕ, ◌+◌, ◌-◌, ◌%◌}
use lib.Dec.{ltb, leb, eqb}
use Rattle.std.specs.Prelude.{Some, Ok, Err}
use Rattle.memory.specs.Bitmap.{marked_in}
use Rattle.uf2_block.specs.Block.{field_at, has_flag}
use Rattle.uf2_block.specs.Region.{region_of}
use Rattle.uf2_block.specs.declared.Block.{Block}
use Rattle.uf2_block.specs.Regions.{good_region, stands_in}
use Rattle.transfer.specs.Transfer.{same_kind, same_head, head_with, deed_answer, raised, accepted, step_of, Step}
use Rattle.transfer.specs.declared.Kind.{Kind}
use Rattle.transfer.specs.declared.Kind.TheVariants.{Flash}
use Rattle.transfer.specs.declared.Head.{Head}
use Rattle.transfer.specs.declared.Deed.{Deed}
use Rattle.transfer.specs.declared.Deed.TheVariants.{Stores, Notes, Keeps}
use Rattle.transfer.specs.declared.State.{State}
use Rattle.transfer.specs.declared.State.TheVariants.{Idle, Running, Done}
use Rattle.transfer.specs.declared.Answer.{Answer}
use Rattle.transfer.specs.declared.Answer.TheVariants as answer
use Rattle.uf2_checks.specs.Screen.{placed_at, Screening}
use Rattle.uf2_checks.specs.declared.PlacedBlock.{PlacedBlock}
use Rattle.uf2_checks.specs.declared.Body.TheVariants.{Page, Note}
use Rattle.arrival.specs.Arrive.{stands_at, stepped, after_screening, forecast_of}
use Rattle.why_causes.specs.Causes.{reason_with}
use Rattle.why_causes.specs.declared.NotKept.TheVariants as not_kept
use Rattle.why_causes.specs.declared.Cause.TheVariants.{Again, Written, Completed, Noted}
use Rattle.why_checks.specs.Block.{raised_of}
use Rattle.why_checks.specs.Parts.{fate_part, region_part, written_part}
use Rattle.why_claims.proofs.Answers.{told, not_ltb}
use Rattle.placement.specs.Place.{place_from}

-- the answer that the receiver gives to what the screening says
abbrev pub settled : State → List ℕ → Bool → Screening → Answer
settled t seen kept x = (forecast_of (after_screening t seen kept x)).answer

pub settled_refused : (t : State) (seen : List ℕ) (kept : Bool) (x : Answer) → settled t seen kept (Err x) ≡ x
unfolding after_screening
settled_refused t seen kept x = refl

-- ---- rows 12, 13, 15 and 16

module _ (g : Head) (number : ℕ) (m cm : Bool) (p : PlacedBlock) (d : Deed) (z : Answer) (e : cond cm answer.Noted z ≡ deed_answer d) where
  -- the raised count beside the total
  tail : (c : ℕ) → told (cond (leb g.total c) (Err (reason_with Completed c g.total)) (cond cm (Err (reason_with Noted c g.total)) (Ok tt))) z
      ≡ raised d g c
  unfolding raised
  tail c = ap (λ (b : Bool). told (cond b (Err (reason_with Completed c g.total)) (cond cm (Err (reason_with Noted c g.total)) (Ok tt))) z) (not_ltb g.total c)
      ∙ by-case (ltb c g.total) cm e
    where
      by-case : (b q : Bool) → cond q answer.Noted z ≡ deed_answer d
          → told (cond (not b) (Err (reason_with Completed c g.total)) (cond q (Err (reason_with Noted c g.total)) (Ok tt))) z ≡ cond b (deed_answer d) answer.Completed
      by-case false q h = refl
      by-case true true h = h
      by-case true false h = h

  same_case : (s : Bool) (c : ℕ) (r : Step)
      → told
      (cond (s && m) (Err (reason_with Again number g.total))
      (cond (leb g.total (cond s (c + 1) 1)) (Err (reason_with Completed (cond s (c + 1) 1) g.total))
      (cond cm (Err (reason_with Noted (cond s (c + 1) 1) g.total)) (Ok tt))))
      z
      ≡ cond s (cond m answer.Again (raised d g (c + 1))) (raised d g 1)
  same_case true c r = again m
    where
      again : (m : Bool) → told
          (cond m (Err (reason_with Again number g.total))
          (cond (leb g.total (c + 1)) (Err (reason_with Completed (c + 1) g.total)) (cond cm (Err (reason_with Noted (c + 1) g.total)) (Ok tt))))
          z
          ≡ cond m answer.Again (raised d g (c + 1))
      again true = refl
      again false = tail (c + 1)
  same_case false c r = tail 1

  pub fate_answer : (t : State) → told (fate_part t g number m cm) z ≡ (forecast_of (stepped p d (step_of t g m d))).answer
  unfolding fate_part raised_of step_of accepted
  fate_answer Idle = tail 1
  fate_answer (Done h) = refl
  fate_answer (Running r) = same_case (same_head r.head g) r.count (step_of (Running r) g m d) ∙ steps (same_head r.head g) m
    where
      steps : (s m : Bool) → cond s (cond m answer.Again (raised d g (r.count + 1))) (raised d g 1)
          ≡ (forecast_of
          (stepped p d
          (cond s
          (cond m (Err (record { transfer = record { state = Running r }; answer = answer.Again })) (Ok (accepted d false false g (r.count + 1))))
          (Ok (accepted d true true g 1))))
          ).answer
      steps true true = refl
      steps true false = refl
      steps false m = refl

-- ---- rows 14 and 17

-- every condition of L9 is met, or one is not
ten : (f k r1 r2 e w1 w2 a1 a2 d : Bool) (n total : ℕ)
    → told
    (cond (not f) (Err (reason_with (Written not_kept.NoRegion) n total))
    (cond (not k) (Err (reason_with (Written not_kept.InRam) n total))
    (cond (not (r1 && r2)) (Err (reason_with (Written not_kept.Ragged) n total))
    (cond e (Err (reason_with (Written not_kept.Empty) n total))
    (cond (not (w1 && w2)) (Err (reason_with (Written not_kept.OutsidePlace) n total))
    (cond (not (a1 && a2)) (Err (reason_with (Written not_kept.NotAround) n total))
    (cond (not d) (Err (reason_with (Written not_kept.OtherDigest) n total)) (Ok tt))))))))
    answer.Kept
    ≡ cond (k && (f && (r1 && r2 && not e && w1 && w2 && a1 && a2) && d)) answer.Kept answer.Written
ten false true r1 r2 e w1 w2 a1 a2 d n total = refl
ten false false r1 r2 e w1 w2 a1 a2 d n total = refl
ten true false r1 r2 e w1 w2 a1 a2 d n total = refl
ten true true false r2 e w1 w2 a1 a2 d n total = refl
ten true true true false e w1 w2 a1 a2 d n total = refl
ten true true true true true w1 w2 a1 a2 d n total = refl
ten true true true true false false w2 a1 a2 d n total = refl
ten true true true true false true false a1 a2 d n total = refl
ten true true true true false true true false a2 d n total = refl
ten true true true true false true true true false d n total = refl
ten true true true true false true true true true false n total = refl
ten true true true true false true true true true true n total = refl

pub written_answer : (flash a : List ℕ) (start size : ℕ) (k : Kind) (n total : ℕ)
    → told (written_part flash start size k a n total) answer.Kept ≡ cond (same_kind k Flash && stands_at flash (Some (place_from start size)) a) answer.Kept answer.Written
unfolding written_part region_part stands_at good_region
written_answer flash a start size k n total =
    let g = region_of a in
    ten (has_flag a 0x4000) (same_kind k Flash) (eqb (g.start % 4096) 0) (eqb (g.len % 4096) 0) (eqb g.len 0) (leb 0x10000000 g.start)
    (leb (g.start - 0x10000000 + g.len) size) (leb g.start (field_at a 12)) (leb (field_at a 12 + 256) (g.start + g.len)) (stands_in flash start g) n total

-- ---- a block that passed rows 1 to 11

module _ (t : State) (seen flash a : List ℕ) (b : Block) (k : Kind) where
  pub note_late : (start size : ℕ) (kept : Bool)
      → told (fate_part t (head_with k b.family b.total) b.number (marked_in seen b.number) true)
      (told (written_part flash start size k a (raised_of t (head_with k b.family b.total)) b.total) answer.Kept)
      ≡ settled t seen kept (Ok (placed_at k Note b))
  unfolding after_screening
  note_late start size kept =
      fate_answer (head_with k b.family b.total) b.number (marked_in seen b.number) true (placed_at k Note b) Notes
      (told (written_part flash start size k a (raised_of t (head_with k b.family b.total)) b.total) answer.Kept) refl t

  pub page_late : (start size at : ℕ) (kept : Bool) → same_kind k Flash && stands_at flash (Some (place_from start size)) a ≡ same_kind k Flash && kept
      → told (fate_part t (head_with k b.family b.total) b.number (marked_in seen b.number) false)
      (told (written_part flash start size k a (raised_of t (head_with k b.family b.total)) b.total) answer.Kept)
      ≡ settled t seen kept (Ok (placed_at k (Page at) b))
  unfolding after_screening
  page_late start size at kept h =
      fate_answer (head_with k b.family b.total) b.number (marked_in seen b.number) false (placed_at k (Page at) b) (cond (same_kind k Flash && kept) Keeps Stores)
      (told (written_part flash start size k a (raised_of t (head_with k b.family b.total)) b.total) answer.Kept)
      (written_answer flash a start size k (raised_of t (head_with k b.family b.total)) b.total
      ∙ (ap (λ (c : Bool). cond c answer.Kept answer.Written) h ∙ deeds (same_kind k Flash && kept)))
      t
    where
      deeds : (c : Bool) → cond c answer.Kept answer.Written ≡ deed_answer (cond c Keeps Stores)
      deeds true = refl
      deeds false = refl
