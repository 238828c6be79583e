-- The claims of specs/Claims.antt hold. Assumes nothing.
use Prim.Native.Nat.{ℕ, zero, suc, ◌+◌, ◌*◌, ◌/◌, ◌≤◌, ◌<◌}
use mathlib.Core.Path.{◌≡◌, refl, sym, ap, subst, ◌∙◌}
use mathlib.Core.Logic.{◌≢◌}
use mathlib.Core.Bool.{Bool, true, false}
use mathlib.Core.List.{List, [], ◌∷◌, ◌++◌, map}
use native.Mathlib.Omega.{arith}
use Rattle.std.specs.Prelude.{Option, Some, None, Result, Ok}
use lib.Dec.{leb, eqb}
use lib.ListN.{length, get_or, replicate, drop, length-append, length-take, length-drop, get_or-replicate}
use lib.Seq.{get_or-set_same, get_or-set_other}
use borrow.Author.Tests.{leb-true, le-leb, eqb-true, eqb-false, eq-eqb, ne_eqb}
use Rattle.laws.specs.Sets.{one, none}
use Rattle.trace_piece.specs.declared.Stop.{Stop}
use Rattle.trace_piece.specs.declared.Stop.TheVariants as stop
use Rattle.trace_layout.specs.Kept.{stop_number, figures_result}
use Rattle.laws.specs.Tab.{tab}
use Rattle.laws.proofs.Tests.{split}
use Rattle.laws.proofs.TabLaws.{is_tab}
use Rattle.partitions.specs.declared.Settings.{Settings}
use Rattle.transfer.specs.Transfer.{number_of}
use Rattle.arrival.specs.Arrive.{Lent, lent_of}
use Rattle.arrival.specs.Lists.{answers_of, discards_of}
use Rattle.trace_replay.specs.Replay.{begun, replay_of, pieces_of, cut, replay_from}
use Rattle.memory.specs.Bitmap.{unmarked, marks}
use Rattle.memory.proofs.bitmap.MapLaws.{map_none, marks_map}
use Rattle.laws.proofs.Laws.{size_none}
use Rattle.trace_report.specs.Pieces.{records_before, arrivals_to}
use Rattle.trace_report.specs.Claims.{IsOurs, EndsBeforeTheStop}
use Rattle.trace_report.proofs.Replays.{ends_before_the_stop}
use Rattle.trace_report.proofs.adding.Adds.{length_arrivals}
use Rattle.trace_counts.specs.declared.Report.{Report}
use Rattle.trace_counts.specs.Counts.{fresh_report, sum_to, good_report, with_room, slot_of, count_one, count_all, how_many_yes}
use Rattle.trace_counts.proofs.Sums.{length_one}
use Rattle.trace_report.specs.Report.{replayed_in, added_to, FiguresOutcome, figures_outcome, figures_number, add_of}
use Rattle.trace_claims.specs.Claims.{sum_of, Sound, Job, done_by, add_all, FromFresh, ReplayAdds}
use Rattle.trace_claims.proofs.Counts.{sum_is, length_all}
use Rattle.trace_claims.proofs.Figures.{from_fresh, replay_adds}
use Rattle.trace_parts.specs.declared.Part.{Part}
use Rattle.trace_counts.specs.declared.ReportError.{ReportError}
use Rattle.trace_parts.specs.Merging.{empty_report, good_part, room_for, both_at, joined, one_of, merge_of}
use Rattle.trace_parts.proofs.Joined.{fresh_right, joined_assoc}
use Rattle.trace_claims.specs.MergesClaims.{stop_in, stops_bad, stops_differing, how_many_stop, part_of, OneIsTheList, EachReplayed, pieces_in, FewPiecesAreReplayed, MergeIsTheList, Plan, shard, pair, traces_of, merge_both, run_plan, AnyPlanIsTheList, ReportsAloneCannot}

-- ---- counts

-- how many of a list are counted at a place
unfoldable hits : ℕ → List ℕ → ℕ
hits k [] = 0
hits k (n ∷ l) = one (eqb k (slot_of n)) + hits k l

one_hit : (c : List ℕ) (k n : ℕ) → k < length c → get_or (count_one c n) k 0 ≡ get_or c k 0 + one (eqb k (slot_of n))
unfolding count_one
one_hit c k n h =
    let v = get_or c (slot_of n) 0 + 1 in
    split (eqb k (slot_of n))
    (λ p. let e : k ≡ slot_of n = eqb-true k (slot_of n) p in
    rw (p, ← e) (get_or-set_same c k (get_or c k 0 + 1) 0 h))
    (λ p. rw (p, get_or-set_other c (slot_of n) k v 0 (eqb-false k (slot_of n) p)) (omega arith))

counts_hit : (l c : List ℕ) (k : ℕ) → k < length c → get_or (count_all c l) k 0 ≡ get_or c k 0 + hits k l
unfolding count_all hits
counts_hit [] c k h = omega arith
counts_hit (n ∷ l) c k h =
    counts_hit l (count_one c n) k (rw (length_one c n) h)
    ∙ rw (one_hit c k n h) (omega arith)

-- counts from c are those of c and those from zero
counts_both : (l c : List ℕ) → length c ≡ 16 → count_all c l ≡ tab 16 (both_at c (count_all (replicate 16 0) l))
counts_both l c h =
    is_tab (count_all c l) 16 (both_at c (count_all (replicate 16 0) l)) (length_all c l ∙ h)
    (λ j i. omega (arith, counts_hit l c j (rw h i), counts_hit l (replicate 16 0) j i, get_or-replicate {A = ℕ} 16 j 0 0 i))

-- ---- one call

sound_good : (r : Report) → Sound r → good_report r ≡ true
unfolding good_report
sound_good r c = rw (eq-eqb (sum_to 16 r.counts) r.records (sum_is r.counts c.slots ∙ c.sums), le-leb r.discards r.records c.discards)

abbrev added : Report → Job → Report
added r j = added_to r j.settings j.lent j.trace

abbrev outcome : Report → Job → FiguresOutcome
outcome r j = figures_outcome (Ok (replay_of j.settings j.lent j.trace).stop) (added r j) (lent_of (replay_of j.settings j.lent j.trace).world)

-- a call with room replays
with_room_lem : (r : Report) (j : Job) → Sound r → r.records + length j.trace / 513 ≤ 4294967295 → done_by r j ≡ outcome r j
unfolding add_of with_room
with_room_lem r j c l = rw (sound_good r c, le-leb (r.records + length j.trace / 513) 4294967295 l)

-- a call without room refuses
refused : (r : Report) (j : Job) → Sound r → leb (r.records + length j.trace / 513) 4294967295 ≡ false → figures_number (done_by r j).answer ≡ 70
unfolding add_of with_room
refused r j c n = rw (sound_good r c, n)

-- a call that replays had room
had_room : (r : Report) (j : Job) → Sound r → figures_number (done_by r j).answer ≡ 0 → r.records + length j.trace / 513 ≤ 4294967295
had_room r j c e =
    split (leb (r.records + length j.trace / 513) 4294967295)
    (λ y. leb-true (r.records + length j.trace / 513) 4294967295 y)
    (λ n. absurd (omega (arith, e, refused r j c n)))

done_is : (r : Report) (j : Job) → Sound r → figures_number (done_by r j).answer ≡ 0 → done_by r j ≡ outcome r j
done_is r j c e = with_room_lem r j c (had_room r j c e)

-- the report stays sound
sound_added : (r : Report) (j : Job) → Sound r → figures_number (done_by r j).answer ≡ 0 → Sound (added r j)
unfolding ReplayAdds
sound_added r j c e =
    let d = done_is r j c e in
    subst (λ (o : FiguresOutcome). Sound o.report) d
    (replay_adds r j.settings j.lent j.trace (replay_of j.settings j.lent j.trace).stop c (ap (λ (o : FiguresOutcome). o.answer) d)).sound

fresh_sound : Sound fresh_report
unfolding sum_of
fresh_sound = record { slots = refl; sums = refl; discards = omega arith }

abbrev part : Report → ℕ → ℕ → ℕ → Part
part r n b d = record { report = r; traces = n; bad = b; differs = d }

-- whether a trace stops so, as a number
abbrev bads : Job → ℕ
bads j = one (stops_bad (stop_in j))

abbrev differing : Job → ℕ
differing j = one (stops_differing (stop_in j))

-- what a call adds is a part of one trace
added_joined : (r : Report) (n x y : ℕ) (j : Job) → length r.counts ≡ 16 → part (added r j) (n + 1) (x + bads j) (y + differing j) ≡ joined (part r n x y) (part (added fresh_report j) 1 (bads j) (differing j))
unfolding added_to joined
added_joined r n x y j h =
    let l = replayed_in j.settings j.lent j.trace in
    let a = map number_of (answers_of j.settings (begun j.lent) l) in
    let d = how_many_yes (discards_of j.settings (begun j.lent) l) in
    let e : 0 + length l ≡ length l = omega arith in
    let f : 0 + d ≡ d = omega arith in
    rw (counts_both a r.counts h, e, f)

-- fewer records: as much is replayed
fewer : (l : List Job) (r q : Report) → Sound r → Sound q → q.records ≤ r.records → EachReplayed r l → EachReplayed q l
unfolding EachReplayed added_to
fewer [] r q c d h e = e
fewer (j ∷ l) r q c d h e =
    let room = had_room r j c e.0 in
    let x = done_is r j c e.0 in
    let y = with_room_lem q j d (omega arith) in
    let z : figures_number (done_by q j).answer ≡ 0 = ap (λ (o : FiguresOutcome). figures_number o.answer) y in
    let rest : EachReplayed (added r j) l = subst (λ (o : FiguresOutcome). EachReplayed o.report l) x e.1 in
    let less : (added q j).records ≤ (added r j).records = omega arith in
    (z, subst (λ (o : FiguresOutcome). EachReplayed o.report l) (sym y) (fewer l (added r j) (added q j) (sound_added r j c e.0) (sound_added q j d z) less rest))

-- a list from any sound report is that report and the list's own part
pub list_joined : (l : List Job) (r : Report) (n x y : ℕ) → Sound r → EachReplayed r l → part (add_all r l) (n + length l) (x + how_many_stop stops_bad l) (y + how_many_stop stops_differing l) ≡ joined (part r n x y) (part_of l)
unfolding add_all EachReplayed how_many_stop
list_joined [] r n x y c e =
    let z : n + 0 ≡ n = omega arith in
    let b : x + 0 ≡ x = omega arith in
    let d : y + 0 ≡ y = omega arith in
    rw (z, b, d) (sym (fresh_right (part r n x y) c.slots))
list_joined (j ∷ l) r n x y c e =
    let q = done_is r j c e.0 in
    let rest : EachReplayed (added r j) l = subst (λ (o : FiguresOutcome). EachReplayed o.report l) q e.1 in
    let f = fewer (j ∷ l) r fresh_report c fresh_sound (omega arith) e in
    let p = done_is fresh_report j fresh_sound f.0 in
    let own : EachReplayed (added fresh_report j) l = subst (λ (o : FiguresOutcome). EachReplayed o.report l) p f.1 in
    let b = how_many_stop stops_bad l in
    let d = how_many_stop stops_differing l in
    let one_more = list_joined l (added r j) (n + 1) (x + bads j) (y + differing j) (sound_added r j c e.0) rest in
    let from-fresh-on = list_joined l (added fresh_report j) 1 (bads j) (differing j) (sound_added fresh_report j fresh_sound f.0) own in
    let t : n + suc (length l) ≡ (n + 1) + length l = omega arith in
    let tb : x + (bads j + b) ≡ (x + bads j) + b = omega arith in
    let td : y + (differing j + d) ≡ (y + differing j) + d = omega arith in
    let u : suc (length l) ≡ 1 + length l = omega arith in
    ap (λ (o : FiguresOutcome). part (add_all o.report l) (n + suc (length l)) (x + (bads j + b)) (y + (differing j + d))) q
    ∙ ap (λ (k : ℕ). part (add_all (added r j) l) k (x + (bads j + b)) (y + (differing j + d))) t
    ∙ ap (λ (k : ℕ). part (add_all (added r j) l) ((n + 1) + length l) k (y + (differing j + d))) tb
    ∙ ap (part (add_all (added r j) l) ((n + 1) + length l) ((x + bads j) + b)) td
    ∙ one_more
    ∙ ap (λ (p : Part). joined p (part_of l)) (added_joined r n x y j c.slots)
    ∙ joined_assoc (part r n x y) (part (added fresh_report j) 1 (bads j) (differing j)) (part_of l)
    ∙ ap (joined (part r n x y)) (sym from-fresh-on)
    ∙ ap (λ (k : ℕ). joined (part r n x y) (part (add_all (added fresh_report j) l) k (bads j + b) (differing j + d))) (sym u)
    ∙ ap (λ (o : FiguresOutcome). joined (part r n x y) (part (add_all o.report l) (suc (length l)) (bads j + b) (differing j + d))) (sym p)

-- ---- no more records than pieces

whole : (s : Settings) (h : Lent) (t : List ℕ) (n : ℕ) → ((k : ℕ) → k < n → IsOurs s h t k) → 513 * n ≤ length t
whole s h t zero f = omega arith
whole s h t (suc n) f = omega (arith, (f n (omega arith)).0, length-take 513 (drop (513 * n) t), length-drop (513 * n) t)

few : (j : Job) → length (replayed_in j.settings j.lent j.trace) ≤ length j.trace / 513
unfolding EndsBeforeTheStop
few j =
    let n = records_before j.trace (replay_of j.settings j.lent j.trace).stop in
    omega (arith, length_arrivals j.trace n, whole j.settings j.lent j.trace n (ends_before_the_stop j.settings j.lent j.trace).ours)

-- the records of a list of which each is replayed
most : (l : List Job) (r : Report) → Sound r → r.records ≤ 4294967295 → EachReplayed r l → (add_all r l).records ≤ 4294967295
unfolding add_all EachReplayed added_to
most [] r c h e = h
most (j ∷ l) r c h e =
    let x = done_is r j c e.0 in
    let rest : EachReplayed (added r j) l = subst (λ (o : FiguresOutcome). EachReplayed o.report l) x e.1 in
    let less : (added r j).records ≤ 4294967295 = omega (arith, had_room r j c e.0, few j) in
    subst (λ (o : FiguresOutcome). (add_all o.report l).records ≤ 4294967295) (sym x) (most l (added r j) (sound_added r j c e.0) less rest)

-- ---- two lists

add_append : (l m : List Job) (r : Report) → add_all r (l ++ m) ≡ add_all (add_all r l) m
unfolding add_all
add_append [] m r = refl
add_append (j ∷ l) m r = add_append l m (done_by r j).report

each_first : (l m : List Job) (r : Report) → EachReplayed r (l ++ m) → EachReplayed r l
unfolding EachReplayed
each_first [] m r e = omega arith
each_first (j ∷ l) m r e = (e.0, each_first l m (done_by r j).report e.1)

each_later : (l m : List Job) (r : Report) → EachReplayed r (l ++ m) → EachReplayed (add_all r l) m
unfolding EachReplayed add_all
each_later [] m r e = e
each_later (j ∷ l) m r e = each_later l m (done_by r j).report e.1

sound_all : (l : List Job) → Sound (add_all fresh_report l)
unfolding FromFresh
sound_all l = (from_fresh l).sound

-- a trace stops once at most
stop_once : (x : Option Stop) → one (stops_bad x) + one (stops_differing x) ≤ 1
stop_once None = omega arith
stop_once (Some (stop.Bad i)) = omega arith
stop_once (Some (stop.Differs i)) = omega arith

few_stops : (l : List Job) → how_many_stop stops_bad l + how_many_stop stops_differing l ≤ length l
unfolding how_many_stop
few_stops [] = omega arith
few_stops (j ∷ l) = omega (arith, few_stops l, stop_once (stop_in j))

good_all : (l : List Job) → good_part (part_of l) ≡ true
unfolding good_part empty_report add_all how_many_stop
good_all [] = rw (sound_good fresh_report fresh_sound)
good_all (j ∷ l) =
    let n : suc (length l) ≢ 0 = λ e. omega (arith, e) in
    let b = how_many_stop stops_bad (j ∷ l) in
    let d = how_many_stop stops_differing (j ∷ l) in
    rw (sound_good (add_all fresh_report (j ∷ l)) (sound_all (j ∷ l)), ne_eqb (suc (length l)) 0 n, le-leb (b + d) (suc (length l)) (few_stops (j ∷ l)))

stops_append : (f : Option Stop → Bool) (l m : List Job) → how_many_stop f (l ++ m) ≡ how_many_stop f l + how_many_stop f m
unfolding how_many_stop
stops_append f [] m = omega arith
stops_append f (j ∷ l) m = omega (arith, stops_append f l m)

pub both_joined : (l m : List Job) → EachReplayed fresh_report (l ++ m) → part_of (l ++ m) ≡ joined (part_of l) (part_of m)
both_joined l m e =
    rw (add_append l m fresh_report, length-append l m, stops_append stops_bad l m, stops_append stops_differing l m)
    (list_joined m (add_all fresh_report l) (length l) (how_many_stop stops_bad l) (how_many_stop stops_differing l) (sound_all l) (each_later l m fresh_report e))

room_both : (l m : List Job) → EachReplayed fresh_report (l ++ m) → length (l ++ m) ≤ 4294967295 → room_for (part_of l) (part_of m) ≡ true
unfolding room_for joined
room_both l m e h =
    let a = (add_all fresh_report l).records in
    let b = (add_all fresh_report m).records in
    let sum : (add_all fresh_report (l ++ m)).records ≡ a + b = ap (λ (p : Part). p.report.records) (both_joined l m e) in
    let top = most (l ++ m) fresh_report fresh_sound (omega arith) e in
    rw (le-leb (a + b) 4294967295 (omega arith), le-leb (length l + length m) 4294967295 (omega (arith, length-append l m)))

pub merge_is_the_list : MergeIsTheList
unfolding MergeIsTheList merge_of
merge_is_the_list l m e h =
    rw (good_all l, good_all m, room_both l m e h) (ap Ok (sym (both_joined l m e)))

-- ---- one trace

one_stop : (r : Report) (x : Option Stop) → good_report r ≡ true → one_of r (stop_number x) ≡ Ok (part r 1 (one (stops_bad x)) (one (stops_differing x)))
unfolding one_of
one_stop r None g = rw g
one_stop r (Some (stop.Bad i)) g = rw g
one_stop r (Some (stop.Differs i)) g = rw g

pub one_is_the_list : OneIsTheList
unfolding OneIsTheList EachReplayed add_all how_many_stop
one_is_the_list j e =
    let d = done_is fresh_report j fresh_sound e.0 in
    let b : bads j + 0 ≡ bads j = omega arith in
    let c : differing j + 0 ≡ differing j = omega arith in
    ap (λ (o : FiguresOutcome). one_of o.report (figures_result o.answer)) d
    ∙ one_stop (added fresh_report j) (stop_in j) (sound_good (added fresh_report j) (sound_added fresh_report j fresh_sound e.0))
    ∙ ap (λ (o : FiguresOutcome). Ok (part o.report 1 (bads j) (differing j))) (sym d)
    ∙ rw (b, c)

-- ---- any plan

later : (l m : List Job) → EachReplayed fresh_report (l ++ m) → EachReplayed fresh_report m
later l m e = fewer m (add_all fresh_report l) fresh_report (sound_all l) fresh_sound (omega arith) (each_later l m fresh_report e)

pair_is : (x y : Result Part ReportError) (a b : Part) → x ≡ Ok a → y ≡ Ok b → merge_both x y ≡ merge_of a b
unfolding merge_both
pair_is x y a b e f = rw (e, f)

plan_is : (p : Plan) → EachReplayed fresh_report (traces_of p) → length (traces_of p) ≤ 4294967295 → run_plan p ≡ Ok (part_of (traces_of p))
unfolding traces_of run_plan MergeIsTheList
plan_is (shard l) e h = refl
plan_is (pair p q) e h =
    let l = traces_of p in
    let m = traces_of q in
    let n = length-append l m in
    pair_is (run_plan p) (run_plan q) (part_of l) (part_of m) (plan_is p (each_first l m fresh_report e) (omega arith)) (plan_is q (later l m e) (omega arith))
    ∙ merge_is_the_list l m e h

pub any_plan_is_the_list : AnyPlanIsTheList
unfolding AnyPlanIsTheList
any_plan_is_the_list = plan_is

-- ---- few pieces

few_from : (l : List Job) (r : Report) → Sound r → r.records + pieces_in l ≤ 4294967295 → EachReplayed r l
unfolding EachReplayed pieces_in added_to
few_from [] r c h = omega arith
few_from (j ∷ l) r c h =
    let x = with_room_lem r j c (omega arith) in
    let z : figures_number (done_by r j).answer ≡ 0 = ap (λ (o : FiguresOutcome). figures_number o.answer) x in
    (z, subst (λ (o : FiguresOutcome). EachReplayed o.report l) (sym x) (few_from l (added r j) (sound_added r j c z) (omega (arith, few j))))

pub few_pieces_are_replayed : FewPiecesAreReplayed
unfolding FewPiecesAreReplayed
few_pieces_are_replayed l h = few_from l fresh_report fresh_sound (omega arith)

-- ---- reports alone

no_marks_lem : (n : ℕ) → marks (unmarked n) ≡ 0
no_marks_lem n = ap marks (map_none n) ∙ marks_map n none ∙ size_none (n * 8)

-- a trace with no byte, replayed with what another was
abbrev blank : Job → Job
blank j = record { settings = j.settings; lent = j.lent; trace = [] }

-- it adds nothing, and its end has no mark
blank_added : (r : Report) (j : Job) → length r.counts ≡ 16 → added r (blank j) ≡ record { records = r.records; counts = r.counts; discards = r.discards; marked = 0; missing = None }
unfolding added_to replay_of pieces_of cut replay_from begun arrivals_to answers_of discards_of count_all how_many_yes
blank_added r j l =
    let a : r.records + 0 ≡ r.records = omega arith in
    let d : r.discards + 0 ≡ r.discards = omega arith in
    rw (a, d, no_marks_lem (length j.lent.seen))

blank_done : (r : Report) (j : Job) → Sound r → r.records ≤ 4294967295 → done_by r (blank j) ≡ outcome r (blank j)
blank_done r j c h = with_room_lem r (blank j) c (omega arith)

blank_fresh : (j : Job) → add_all fresh_report (blank j ∷ []) ≡ fresh_report
unfolding add_all
blank_fresh j =
    ap (λ (o : FiguresOutcome). o.report) (blank_done fresh_report j fresh_sound (omega arith))
    ∙ blank_added fresh_report j refl

blank_ends : (r : Report) (j : Job) → Sound r → r.records ≤ 4294967295 → (add_all r (blank j ∷ [])).marked ≡ 0
unfolding add_all
blank_ends r j c h =
    ap (λ (o : FiguresOutcome). o.report.marked) (blank_done r j c h)
    ∙ ap (λ (q : Report). q.marked) (blank_added r j c.slots)

pub reports_alone_cannot : ReportsAloneCannot
unfolding ReportsAloneCannot EachReplayed pieces_in add_all
reports_alone_cannot f g j h =
    let r = add_all fresh_report (j ∷ []) in
    let e : EachReplayed fresh_report (j ∷ []) = few_from (j ∷ []) fresh_report fresh_sound (omega arith) in
    let e2 : EachReplayed fresh_report (j ∷ blank j ∷ []) = few_from (j ∷ blank j ∷ []) fresh_report fresh_sound (omega arith) in
    let top : r.records ≤ 4294967295 = most (j ∷ []) fresh_report fresh_sound (omega arith) e in
    -- with no trace, and with a blank one
    let x : f r fresh_report ≡ r = g (j ∷ []) [] e in
    let y : f r (add_all fresh_report (blank j ∷ [])) ≡ add_all r (blank j ∷ []) = g (j ∷ []) (blank j ∷ []) e2 in
    let z : f r fresh_report ≡ add_all r (blank j ∷ []) = ap (f r) (sym (blank_fresh j)) ∙ y in
    ap (λ (q : Report). q.marked) (sym x ∙ z) ∙ blank_ends r j (sound_all (j ∷ [])) top
