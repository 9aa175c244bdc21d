use Rattle.std.proofs.Common.{◌≡◌, ◌-◌, ◌+◌, ◌∙◌, ap, sym, subst, drop, length, get_or, arith}
use Rattle.state_log.specs.declared.notes.Note.{Note}
use Rattle.change_calls.specs.TouchedRecords.{IsFull, IsTaken, notes_of}
use Rattle.change_calls.proofs.Spread.{IsWalk-whole, length-notes, note_at, position_there}
use Rattle.change_calls.proofs.Taking.{IsWalk-full, next_marks}
use Rattle.change_calls.proofs.touched_records.mark_positions.Goals as goal

pub note-note-requires-clause-above : goal.note-note-requires-clause-above
note-note-requires-clause-above c =
    let l = c.args.log.now in
    (position_there c.args.kind l.floor (c.args.from - l.floor) l.notes c.args.positions.now c.loop-position.position-index c.requires.positions c.loop-position-test.true (omega (arith, c.requires.reached))).0

pub note-note-requires-clause-within : goal.note-note-requires-clause-within
note-note-requires-clause-within c =
    let l = c.args.log.now in
    (position_there c.args.kind l.floor (c.args.from - l.floor) l.notes c.args.positions.now c.loop-position.position-index c.requires.positions c.loop-position-test.true (omega (arith, c.requires.reached))).1

pub returns-then-not-branch : goal.returns-then-not-branch
returns-then-not-branch c =
    let l = c.args.log.now in
    let a = c.args.from - l.floor in
    let ps = c.args.positions.now in
    let i = c.loop-position.position-index in
    let own = notes_of c.args.kind (drop a l.notes) in
    let size : length own ≡ length ps = length-notes c.args.kind (l.floor + a) (drop a l.notes) ∙ ap length (sym c.requires.positions) in
    let d : Note = c.note-note.result in
    let here : c.note-note.result ≡ get_or own i d = c.note-note.ensures d ∙ note_at c.args.kind l.floor a l.notes ps i d c.requires.positions c.loop-position-test.true in
    IsWalk-full c.args.kind c.args.max own i c.loop-position.taken d c.loop-position.marks.entries c.take_note.new.marks.entries
    c.loop-position.invariant.counted (omega (arith, size, c.loop-position-test.true)) c.loop-position.invariant.marks_are c.loop-position.invariant.few
    (subst (λ n. IsFull c.args.kind c.args.max c.loop-position.marks.entries n c.take_note.new.marks.entries) here (c.in_ok-take_note.ensures.full c.if-not-branch.true))

pub loop-position-preserved : goal.loop-position-preserved
loop-position-preserved c =
    let l = c.args.log.now in
    let a = c.args.from - l.floor in
    let ps = c.args.positions.now in
    let i = c.loop-position.position-index in
    let own = notes_of c.args.kind (drop a l.notes) in
    let size : length own ≡ length ps = length-notes c.args.kind (l.floor + a) (drop a l.notes) ∙ ap length (sym c.requires.positions) in
    let d : Note = c.note-note.result in
    let here : c.note-note.result ≡ get_or own i d = c.note-note.ensures d ∙ note_at c.args.kind l.floor a l.notes ps i d c.requires.positions c.loop-position-test.true in
    let taken =
    subst (λ n. IsTaken c.args.kind c.args.max c.loop-position.marks.entries n c.take_note.new.marks.entries) here (c.in_ok-take_note.ensures.taken c.if-not-branch.false) in
    record {
      counted = ap (λ n. n + 1) c.loop-position.invariant.counted;
      marks_are = next_marks c.args.kind c.args.max own i d c.loop-position.marks.entries c.take_note.new.marks.entries
          (omega (arith, size, c.loop-position-test.true)) c.loop-position.invariant.marks_are taken;
      few = taken.few;
    }

pub returns : goal.returns
returns c =
    let l = c.args.log.now in
    let a = c.args.from - l.floor in
    let own = notes_of c.args.kind (drop a l.notes) in
    let size : length own ≡ length c.args.positions.now = length-notes c.args.kind (l.floor + a) (drop a l.notes) ∙ ap length (sym c.requires.positions) in
    IsWalk-whole c.args.kind c.args.max own c.loop-position.taken c.loop-position.position-index c.loop-position.marks.entries
    c.loop-position.invariant.counted (omega (arith, size, c.loop-position-test.false, c.loop-position.auto.position-index-end)) c.loop-position.invariant.marks_are c.loop-position.invariant.few
