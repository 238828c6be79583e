-- The claims of specs/Kept.antt hold. Assumes nothing.
use Prim.Native.Nat.{ℕ, ◌+◌, ◌-◌, ◌≤◌}
use mathlib.Core.Path.{◌≡◌, refl, sym, ap, ◌∙◌}
use mathlib.Core.Bool.{Bool, true, false, not, cond, ◌&&◌}
use mathlib.Core.List.{List}
use native.Mathlib.Omega.{arith}
use lib.Dec.{ltb}
use lib.ListN.{length, get_or}
use Rattle.std.specs.Prelude.{Ok, Err}
use Rattle.laws.proofs.Tests.{split, is_false, both}
use Rattle.memory.specs.Bitmap.{marked_in, with_mark}
use Rattle.uf2_block.specs.Block.{field_at, has_flag}
use Rattle.uf2_block.specs.Region.{region_of}
use Rattle.uf2_block.proofs.Laws.{flag_comment}
use Rattle.memory.specs.Flash.{payload_of}
use Rattle.memory.proofs.flash.Laws.{payload_set}
use Rattle.md5_digest.specs.Md5.{md5_of}
use Rattle.md5_digest.specs.declared.Digest.{Digest}
use Rattle.uf2_block.specs.Regions.{same_digest, part_of, stands_in}
use Rattle.uf2_block.proofs.regions.Laws.{Counting, good_yes, stands_there, digest_yes}
use Rattle.partitions.specs.Settings.{good_settings}
use Rattle.partitions.specs.declared.Settings.{Settings}
use Rattle.placement.proofs.Theorems.{place_inside}
use Rattle.transfer.specs.Transfer.{number_of, same_kind, good_state, same_head, deed_answer, raised, accepted, step_of, Step}
use Rattle.transfer.specs.declared.Kind.{Kind}
use Rattle.transfer.specs.declared.Kind.TheVariants.{Flash}
use Rattle.transfer.specs.declared.Head.{Head}
use Rattle.transfer.specs.declared.State.{State}
use Rattle.transfer.specs.declared.State.TheVariants.{Idle, Running, Done}
use Rattle.transfer.specs.declared.Deed.{Deed}
use Rattle.transfer.specs.declared.Deed.TheVariants.{Stores, Notes, Keeps}
use Rattle.transfer.specs.declared.Answer.{Answer}
use Rattle.transfer.specs.declared.Answer.TheVariants.{BadBuffers, BadSettings, BadState}
use Rattle.uf2_checks.specs.Screen.{screen_of, Screening}
use Rattle.uf2_checks.specs.declared.Lengths.{Lengths}
use Rattle.uf2_checks.specs.declared.Body.{Body}
use Rattle.uf2_checks.specs.declared.Body.TheVariants.{Page, Note}
use Rattle.uf2_checks.specs.declared.PlacedBlock.{PlacedBlock}
use Rattle.arrival.specs.Arrive.{World, Decision, stays, right_lengths, stands_at, standing, body_deed, deed_of, stepped, after_screening, decide, decided, cleared_if, accept_of, done, receive_of}
use Rattle.arrival.specs.Windows.{kind_of}
use Rattle.arrival.specs.Facts.{flagged}
use Rattle.arrival_claims.specs.Comments.{Unstored}
use Rattle.arrival_claims.specs.Kept.{soft, Agree, FlashDecides14Or17, Flag0x4000Decides14Or17, StandingKept, KeptStands, ElseAsBefore}
use Rattle.arrival.specs.Standing.{Standing}
use Rattle.arrival.proofs.Standing.{keeps_at, standing_of}
use Rattle.arrival_claims.proofs.Screening.{flash_of, lens, Board, Passing, passing_deed}
use Rattle.arrival_claims.proofs.DecisionFacts.{raised_count, took_answer, deed_at, DecisionFacts, refused, took, decision_facts, decide_same}
use Rattle.arrival_claims.proofs.Bounds.{deed_is}
use Rattle.arrival.proofs.Facts.{decide_flags, kind_flags}
use Rattle.arrival_claims.proofs.Comments.{unstored}

-- ---- what stands tells 14 from 17, and nothing else

-- two steps that differ in 14 and 17 alone
abbrev Like : Step → Step → Type 0
Like (Err x) (Err y) = x ≡ y
Like (Err x) (Ok l) = ⊥
Like (Ok k) (Err y) = ⊥
Like (Ok k) (Ok l) =
    (soft k.answer ≡ soft l.answer) × (k.discarded ≡ l.discarded) × (k.transfer ≡ l.transfer) × (k.clears ≡ l.clears)

soft_raised : (d e : Deed) (g : Head) (c : ℕ) → soft (deed_answer d) ≡ soft (deed_answer e) → soft (raised d g c) ≡ soft (raised e g c)
unfolding raised
soft_raised d e g c h = split (ltb c g.total) (λ y. rw y h) (λ z. rw z)

like_accepted : (d e : Deed) (clears discards : Bool) (g : Head) (c : ℕ) → soft (deed_answer d) ≡ soft (deed_answer e)
    → Like (Ok (accepted d clears discards g c)) (Ok (accepted e clears discards g c))
unfolding accepted
like_accepted d e clears discards g c h = (soft_raised d e g c h, refl, refl, refl)

like_steps : (t : State) (g : Head) (m : Bool) (d e : Deed) → soft (deed_answer d) ≡ soft (deed_answer e) → Like (step_of t g m d) (step_of t g m e)
unfolding step_of
like_steps Idle g m d e h = like_accepted d e true false g 1 h
like_steps (Running r) g m d e h =
    split (same_head r.head g)
    (λ q. split m (λ y. rw (q, y) refl) (λ z. rw (q, z) (like_accepted d e false false g (r.count + 1) h)))
    (λ q. rw q (like_accepted d e true true g 1 h))
like_steps (Done x) g m d e h = refl

-- a page is kept or stored, a comment noted
soft_deeds : (b c : Bool) (x : Body) → soft (deed_answer (body_deed b x)) ≡ soft (deed_answer (body_deed c x))
soft_deeds true true (Page at) = refl
soft_deeds true false (Page at) = refl
soft_deeds false true (Page at) = refl
soft_deeds false false (Page at) = refl
soft_deeds b c Note = refl

-- two worlds with the same transfer and seen map
module _ (v w : World) (p : List ℕ) (transfers : v.transfer ≡ w.transfer) (maps : v.seen ≡ w.seen) where
  agree_stays : (x : Answer) → Agree (done v p (stays x)) (done w p (stays x))
  unfolding done
  agree_stays x = record { answer = refl; discarded = refl; transfer = transfers; seen = maps }

  agree_steps : (g : PlacedBlock) (d e : Deed) (x y : Step) → Like x y → Agree (done v p (stepped g d x)) (done w p (stepped g e y))
  unfolding done accept_of
  agree_steps g d e (Err x) (Err y) h =
      record { answer = ap (λ u. soft u.answer) h; discarded = refl; transfer = transfers; seen = maps }
  agree_steps g d e (Err x) (Ok l) h = absurd h
  agree_steps g d e (Ok k) (Err y) h = absurd h
  agree_steps g d e (Ok k) (Ok l) h =
      record {
        answer = h.0;
        discarded = h.1;
        transfer = ap (λ u. u.state) h.2;
        seen = λ i. with_mark (cleared_if (h.3 i) (maps i)) g.number;
      }

  agree_screened : (t : State) (seen : List ℕ) (b c : Bool) (x : Screening) → Agree (done v p (after_screening t seen b x)) (done w p (after_screening t seen c x))
  unfolding after_screening
  agree_screened t seen b c (Err x) = agree_stays x
  agree_screened t seen b c (Ok g) =
      let k = same_kind g.head.kind Flash in
      agree_steps g (deed_of b g) (deed_of c g)
      (step_of t g.head (marked_in seen g.number) (deed_of b g))
      (step_of t g.head (marked_in seen g.number) (deed_of c g))
      (like_steps t g.head (marked_in seen g.number) (deed_of b g) (deed_of c g) (soft_deeds (k && b) (k && c) g.body))

  agree_cond : (b : Bool) (x : Answer) (y z : Decision) → Agree (done v p y) (done w p z) → Agree (done v p (cond b (stays x) y)) (done w p (cond b (stays x) z))
  agree_cond true x y z h = agree_stays x
  agree_cond false x y z h = h

  agree_decide : (s : Settings) (n : Lengths) (k : ℕ) (t : State) (seen : List ℕ) (b c : Bool) (a : List ℕ)
      → Agree (done v p (decide s n k t seen b a)) (done w p (decide s n k t seen c a))
  unfolding decide
  agree_decide s n k t seen b c a =
      agree_cond (not (right_lengths (length a) n (length seen) k)) BadBuffers _ _
      (agree_cond (not (good_settings s n.flash)) BadSettings _ _
      (agree_cond (not (good_state t)) BadState _ _
      (agree_screened t seen b c (screen_of s n t a))))

pub flash_decides_14_or_17 : FlashDecides14Or17
unfolding FlashDecides14Or17 receive_of
flash_decides_14_or_17 s v w a e =
    let b = standing s v.held.flash a in
    let same : decided s v a ≡ decide s (lens w) (length w.held.sectors) w.transfer w.seen b a =
    λ i. decide s (e.lengths i) (e.sectors_length i) (e.transfer i) (e.seen i) b a in
    rw same
    (agree_decide v w (payload_of a) e.transfer e.seen s (lens w) (length w.held.sectors) w.transfer w.seen b (standing s w.held.flash a) a)

pub flag_0x4000_decides_14_or_17 : Flag0x4000Decides14Or17
unfolding Flag0x4000Decides14Or17 receive_of
flag_0x4000_decides_14_or_17 s w a =
    let b = standing s w.held.flash (flagged 0x40 a) in
    rw (
      payload_set a 9 (get_or a 9 0 + 0x40) (omega arith),
      decide_flags s (lens w) (length w.held.sectors) w.transfer w.seen b a 0x40 (omega arith),
    )
    (agree_decide w w (payload_of a) refl refl s (lens w) (length w.held.sectors) w.transfer w.seen b (standing s w.held.flash a) a)

-- ---- when it is kept

module _ (s : Settings) (w : World) (a : List ℕ) where
  pub standing_keeps : Board s w → Standing s w a → keeps_at s w a ≡ true
  unfolding stands_at region_of
  standing_keeps B q =
      let start = q.start in
      let size = q.size in
      let i = place_inside s (flash_of w) (field_at a 28) B.flash B.good start size q.place in
      let c : Counting size (field_at a 12) (region_of a) =
      record {
        starts = q.first;
        ends = q.whole;
        some = q.some;
        window = q.window;
        within = q.within;
        before = q.before;
        behind = q.behind;
      } in
      let d : same_digest (md5_of (part_of w.held.flash start (region_of a))) (region_of a) ≡ true =
      ap (λ (x : Digest). same_digest x (region_of a)) q.digest ∙ digest_yes (region_of a) in
      let t : stands_in w.held.flash start (region_of a) ≡ true =
      sym (stands_there w.held.flash start (region_of a) q.window (omega (arith, q.within, i.2))) ∙ d in
      rw (q.flash, q.place) (both (both q.flag (good_yes size (field_at a 12) (region_of a) c)) t)

keeping : (s : Settings) (w : World) (a : List ℕ) {d : Decision} → DecisionFacts s w a d → Standing s w a
    → 14 ≤ number_of (done w (payload_of a) d).answer → Unstored 17 w a (done w (payload_of a) d)
keeping s w a (refused x h) q n = let m : 14 ≤ number_of x = unfold done in n in absurd (omega arith)
keeping s w a (took g k B l p t) q n =
    unstored s w a Keeps g k p B t (deed_is s w a g k p B ∙ rw (q.data_block, standing_keeps s w a B q)) (λ e. let z : ◌≡◌ {A = ℕ} 0 1 = cc in omega arith)

pub standing_kept : StandingKept
unfolding StandingKept receive_of
standing_kept s w a q n = keeping s w a (decision_facts s w a) q n

-- only what is kept is answered 17
raised_kept : (d : Deed) (g : Head) (c : ℕ) → number_of (raised d g c) ≡ 17 → d ≡ Keeps
unfolding raised
raised_kept d g c e = split (ltb c g.total) (λ y. of d (rw y at e)) (λ z. let f = rw z at e in absurd (omega arith))
  where
    of : (d : Deed) → number_of (deed_answer d) ≡ 17 → d ≡ Keeps
    of Stores e = absurd (omega arith)
    of Notes e = absurd (omega arith)
    of Keeps e = refl

kept_only : (b c : Bool) → cond b Notes (cond c Keeps Stores) ≡ Keeps → (b ≡ false) × (c ≡ true)
kept_only true c e = let z : ◌≡◌ {A = ℕ} 0 1 = cc in absurd (omega arith)
kept_only false true e = (refl, refl)
kept_only false false e = let z : ◌≡◌ {A = ℕ} 0 1 = cc in absurd (omega arith)

stands : (s : Settings) (w : World) (a : List ℕ) {d : Decision} → DecisionFacts s w a d → number_of (done w (payload_of a) d).answer ≡ 17 → Standing s w a
stands s w a (refused x h) n = let m : number_of x ≡ 17 = unfold done in n in absurd (omega arith)
stands s w a (took g k B l p t) n =
    let m : number_of k.answer ≡ 17 = unfold done in n in
    let e : deed_at s w a g ≡ Keeps = raised_kept (deed_at s w a g) g.head (raised_count t) (sym (ap number_of (took_answer t)) ∙ m) in
    let f = kept_only (has_flag a 0x1) (keeps_at s w a) (sym (deed_is s w a g k p B) ∙ e) in
    standing_of s w a f.0 f.1

pub kept_stands : KeptStands
unfolding KeptStands receive_of
kept_stands s w a n = stands s w a (decision_facts s w a) n

-- ---- else as before

pub else_as_before : ElseAsBefore
unfolding ElseAsBefore receive_of
else_as_before s w a n m =
    rw (
      payload_set a 9 (get_or a 9 0 + 0x40) (omega arith),
      decide_flags s (lens w) (length w.held.sectors) w.transfer w.seen (standing s w.held.flash (flagged 0x40 a)) a 0x40 (omega arith),
    )
    (ap (done w (payload_of a)) (decide_same s w a (standing s w.held.flash (flagged 0x40 a)) (standing s w.held.flash a) same))
  where
    b : Bool
    b = standing s w.held.flash (flagged 0x40 a)

    c : Bool
    c = standing s w.held.flash a

    k : Bool
    k = same_kind (kind_of w a) Flash

    same : (g : PlacedBlock) → Passing s w a g → deed_of b g ≡ deed_of c g
    same g p = passing_deed s w a g p b ∙ alike ∙ sym (passing_deed s w a g p c)
      where
        alike : cond (has_flag a 0x1) Notes (cond (k && b) Keeps Stores) ≡ cond (has_flag a 0x1) Notes (cond (k && c) Keeps Stores)
        alike =
            split (has_flag a 0x1)
            (λ y. rw y)
            (λ z.
            let q : k && c ≡ false = is_false (k && c) (λ y. n (standing_of s w a z y)) in
            let r : k && b ≡ false =
            is_false (k && b)
            (λ y. m (standing_of s w (flagged 0x40 a) (flag_comment a 0x40 (omega arith) ∙ z) (ap (λ (u : Kind). same_kind u Flash && b) (kind_flags w a 0x40 (omega arith)) ∙ y))) in
            rw (z, q, r))
