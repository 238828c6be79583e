use Rattle.text.specs.HexState.{reader_state_text}
use native.Mathlib.Omega.{arith}
use Rattle.text.proofs.Laws.{put_fits}
use Rattle.text.proofs.hex_state.put_reader_state.Goals as goal

pub returns-in-Between : goal.returns-in-Between
unfolding reader_state_text
returns-in-Between c =
    let both = put_fits c.args.out.now 0 _ (omega arith) (c.put.ensures.value, c.put.ensures.out_after) in
    rw c.in-Between.is (record { value = both.0; out_after = both.1 })

pub returns-in-Opened : goal.returns-in-Opened
unfolding reader_state_text
returns-in-Opened c =
    let both = put_fits c.args.out.now 0 _ (omega arith) (c.put-in-Opened.ensures.value, c.put-in-Opened.ensures.out_after) in
    rw c.in-Opened.is (record { value = both.0; out_after = both.1 })

pub returns-in-Inside : goal.returns-in-Inside
unfolding reader_state_text
returns-in-Inside c =
    let both = put_fits c.args.out.now 0 _ (omega arith) (c.put-in-Inside.ensures.value, c.put-in-Inside.ensures.out_after) in
    rw c.in-Inside.is (record { value = both.0; out_after = both.1 })

pub returns-in-Padded : goal.returns-in-Padded
unfolding reader_state_text
returns-in-Padded c =
    let both = put_fits c.args.out.now 0 _ (omega arith) (c.put-in-Padded.ensures.value, c.put-in-Padded.ensures.out_after) in
    rw c.in-Padded.is (record { value = both.0; out_after = both.1 })

pub returns-in-Ended : goal.returns-in-Ended
unfolding reader_state_text
returns-in-Ended c =
    let both = put_fits c.args.out.now 0 _ (omega arith) (c.put-in-Ended.ensures.value, c.put-in-Ended.ensures.out_after) in
    rw c.in-Ended.is (record { value = both.0; out_after = both.1 })

pub returns-in-Failed : goal.returns-in-Failed
unfolding reader_state_text
returns-in-Failed c = rw c.in-Failed.is c.put_failed.ensures
