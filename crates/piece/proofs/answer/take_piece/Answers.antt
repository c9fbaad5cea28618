-- `take_piece` meets its contract: all replies are written and counted, and what is left is held. Assumes nothing.
use Rattle.std.proofs.Common.{◌≡◌, ℕ, ◌+◌, ◌≤◌, ◌<◌, List, [], ◌∷◌, ◌++◌, length, refl, sym, ap, ◌∙◌, arith, append-nil, append_assoc, length-append, zero-add}
use Rattle.std.proofs.lemmas.List.{map-append, length-map}
use Rattle.text.specs.Bytes.{put}
use Rattle.text.proofs.Put.{put_put, put_nothing}
use Rattle.replies.specs.Reply.{Reply, reply_to, answer_line}
use Rattle.state.specs.declared.Tallies.{Tallies}
use Rattle.state.specs.declared.State.{State}
use Rattle.piece.specs.declared.Taken.{Taken}
use Rattle.scan.specs.Complete.{lines_from, rest_from, line_feeds}
use Rattle.scan.proofs.Cutting.{length_lines}
use Rattle.state.specs.Holding.{tail_of, held_line, as_held, total}
use Rattle.state.proofs.Holds.{tail_of_as_held}
use Rattle.piece.specs.Tally.{tallies_with}
use Rattle.piece.specs.Piece.{replies, joined_answers, answer_lines, added, state_after_piece, most_lines}
use Rattle.piece.proofs.Replied.{joined_append, joined_push, length_first, tallies_append, tallies_none, total_with}
use Rattle.piece.proofs.answer.take_piece.Goals as goal
use Rattle.piece.proofs.answer.take_piece.Invariants.{Done}

module _ (all : List Reply) (t₀ : Tallies) (out₀ : List ℕ) (done left : List Reply) (out : List ℕ) (place : ℕ) (t : Tallies) (d : Done all t₀ out₀ done left out place t) where
  -- a reply comes
  module _ (r : Reply) (later : List Reply) (e : left ≡ r ∷ later) where
    all_now : all ≡ done ++ r ∷ later
    all_now = d.all_are ∙ ap (λ (k : List Reply). done ++ k) e

    -- its answer line has room
    module _ (room : length (joined_answers all) ≤ length out₀) where
      all_room : length (joined_answers done) + (length (answer_line r) + length (joined_answers later)) ≤ length out₀
      all_room =
          omega (
            arith,
            ap (λ (k : List Reply). length (joined_answers k)) all_now,
            ap length (joined_append done (r ∷ later)),
            length-append (joined_answers done) (joined_answers (r ∷ later)),
            length_first r later,
            room,
          )

      line_room : length out ≡ length out₀ → place + length (answer_line r) ≤ length out
      line_room h = omega (arith, h, d.place_is, all_room)

      -- and then it is done
      next : (out' : List ℕ) (place' : ℕ) (t' : Tallies) → place' ≡ place + length (answer_line r) → out' ≡ put out place (answer_line r) → t' ≡ tallies_with t (r ∷ [])
          → Done all t₀ out₀ (done ++ r ∷ []) later out' place' t'
      next out' place' t' pe oe te = record {
        all_are = all_now ∙ sym (append_assoc done (r ∷ []) later);
        out_is =
            oe
            ∙ ap (λ (k : List ℕ). put k place (answer_line r)) d.out_is
            ∙ ap (λ (k : ℕ). put (put out₀ 0 (joined_answers done)) k (answer_line r)) (d.place_is ∙ sym (zero-add (length (joined_answers done))))
            ∙ put_put out₀ 0 (joined_answers done) (answer_line r) (omega (arith, all_room))
            ∙ ap (put out₀ 0) (sym (joined_push done r));
        place_is = omega (arith, pe, d.place_is, ap length (joined_push done r), length-append (joined_answers done) (answer_line r));
        tallies_are = te ∙ ap (λ (k : Tallies). tallies_with k (r ∷ [])) d.tallies_are ∙ sym (tallies_append t₀ done (r ∷ []));
      }

    -- it can be counted
    countable : total t₀ + length all ≤ most_lines → total t < most_lines
    countable h = omega (arith, h, ap length all_now, length-append done (r ∷ later), ap total d.tallies_are, total_with t₀ done)

  -- none comes any more
  all_done : left ≡ [] → done ≡ all
  all_done e = sym (d.all_are ∙ ap (λ (k : List Reply). done ++ k) e ∙ append-nil done)

nothing_done : (all : List Reply) (t₀ : Tallies) (out₀ : List ℕ) → Done all t₀ out₀ [] all out₀ 0 t₀
unfolding joined_answers
nothing_done all t₀ out₀ = record { all_are = refl; out_is = sym (put_nothing out₀ 0); place_is = refl; tallies_are = sym (tallies_none t₀) }

-- the replies to a piece, and the state after it
module _ (s : State) (p : List ℕ) where
  as_many : length (replies (lines_from (held_line s.tail) p)) ≡ line_feeds p
  unfolding replies
  as_many = length-map (lines_from (held_line s.tail) p) reply_to ∙ length_lines p (held_line s.tail)

  module _ (sum : total s.tallies ≡ s.lines) (t : Tallies) (e : t ≡ tallies_with s.tallies (replies (lines_from (held_line s.tail) p))) where
    all_total : total t ≡ s.lines + line_feeds p
    all_total = omega (arith, ap total e, total_with s.tallies (replies (lines_from (held_line s.tail) p)), as_many, sum)

    taken_is : (tail : List ℕ) (place : ℕ) → tail ≡ as_held (rest_from (held_line s.tail) p) → place ≡ length (joined_answers (replies (lines_from (held_line s.tail) p)))
        → ◌≡◌ {A = Taken} (record { state = record { tail = tail_of tail; lines = total t; tallies = t }; wrote = place }) (record { state = state_after_piece s p; wrote = length (answer_lines (added s p)) })
    unfolding state_after_piece added answer_lines
    taken_is tail place a b =
        let l = ap tail_of a ∙ tail_of_as_held (rest_from (held_line s.tail) p) in
        let n = all_total in
        cc

  module _ (all : List Reply) (same : all ≡ replies (lines_from (held_line s.tail) p)) (t₀ : Tallies) (start : t₀ ≡ s.tallies) where
    room : (n : ℕ) → length (answer_lines (added s p)) ≤ n → length (joined_answers all) ≤ n
    unfolding answer_lines added
    room n h = rw same h

    most : total s.tallies ≡ s.lines → s.lines + line_feeds p ≤ most_lines → total t₀ + length all ≤ most_lines
    most e h = omega (arith, h, e, ap total start, ap length same, as_many)

    -- what is done in the end
    module _ (out₀ : List ℕ) (done left : List Reply) (out : List ℕ) (place : ℕ) (t : Tallies) (d : Done all t₀ out₀ done left out place t) (e : left ≡ []) where
      last : done ≡ replies (lines_from (held_line s.tail) p)
      last = all_done _ _ _ _ _ _ _ _ d e ∙ same

      last_tallies : t ≡ tallies_with s.tallies (replies (lines_from (held_line s.tail) p))
      last_tallies = d.tallies_are ∙ rw (last, start) refl

      last_place : place ≡ length (joined_answers (replies (lines_from (held_line s.tail) p)))
      last_place = d.place_is ∙ ap (λ (k : List Reply). length (joined_answers k)) last

      last_out : out ≡ put out₀ 0 (answer_lines (added s p))
      unfolding answer_lines added
      last_out = d.out_is ∙ ap (λ (k : List Reply). put out₀ 0 (joined_answers k)) last

-- the replies of the code are these
same_replies : (l k p : List ℕ) (rs : List Reply) → rs ≡ replies (lines_from l p) → l ≡ k → rs ≡ replies (lines_from k p)
same_replies l k p rs e f = e ∙ ap (λ (m : List ℕ). replies (lines_from m p)) f

pub loop-reply-init : goal.loop-reply-init
loop-reply-init c = (nothing_done _ _ _, refl)

pub put-at-requires : goal.put-at-requires
put-at-requires c =
    let same = same_replies _ _ _ _ c.of-replies.ensures.replies c.held.ensures in
    line_room _ _ _ _ _ _ _ _ c.loop-reply.invariant.0 _ _ c.in-Some.ensures.steps.0
    (room c.args.reader c.args.piece.now _ same _ c.tallies-tallies.ensures.value _ c.requires.room) c.loop-reply.auto.out

pub count_reply-tallies-requires : goal.count_reply-tallies-requires
count_reply-tallies-requires c =
    let same = same_replies _ _ _ _ c.of-replies.ensures.replies c.held.ensures in
    let v = c.tallies-tallies.ensures.value in
    countable _ _ _ _ _ _ _ _ c.loop-reply.invariant.0 _ _ c.in-Some.ensures.steps.0
    (most c.args.reader c.args.piece.now _ same _ v (rw v at c.tallies-tallies.ensures.adds_up) c.requires.countable)

pub loop-reply-preserved : goal.loop-reply-preserved
loop-reply-preserved c =
    let same = same_replies _ _ _ _ c.of-replies.ensures.replies c.held.ensures in
    let s = c.in-Some.ensures.steps in
    let r = room c.args.reader c.args.piece.now _ same _ c.tallies-tallies.ensures.value _ c.requires.room in
    (rw map-append (next _ _ _ _ _ _ _ _ c.loop-reply.invariant.0 _ _ s.0 r _ _ _ c.put-at.ensures.value c.put-at.ensures.out_after c.count_reply-tallies.ensures), s.1 ∙ c.loop-reply.invariant.1)

pub overflow_cast-result : goal.overflow_cast-result
overflow_cast-result c =
    let same = same_replies _ _ _ _ c.of-replies.ensures.replies c.held.ensures in
    let v = c.tallies-tallies.ensures.value in
    let t = last_tallies c.args.reader c.args.piece.now _ same _ v _ _ _ _ _ _ c.loop-reply.invariant.0 c.in_default.ensures.steps.0 in
    record { fits = omega (arith, c.total.ensures, all_total c.args.reader c.args.piece.now (rw v at c.tallies-tallies.ensures.adds_up) _ t, c.requires.countable) }

pub returns-clause-value : goal.returns-clause-value
returns-clause-value c =
    let same = same_replies _ _ _ _ c.of-replies.ensures.replies c.held.ensures in
    let v = c.tallies-tallies.ensures.value in
    let d = c.loop-reply.invariant in
    let s = c.in_default.ensures.steps in
    let t = last_tallies c.args.reader c.args.piece.now _ same _ v _ _ _ _ _ _ d.0 s.0 in
    let n = last_place c.args.reader c.args.piece.now _ same _ v _ _ _ _ _ _ d.0 s.0 in
    let held = c.unfinished.ensures ∙ s.1 ∙ d.1 ∙ c.of-replies.ensures.rest ∙ ap (λ l. as_held (rest_from l c.args.piece.now)) c.held.ensures in
    rw (c.into.ensures, c.total.ensures) (taken_is c.args.reader c.args.piece.now (rw v at c.tallies-tallies.ensures.adds_up) _ t _ _ held n)

pub returns-clause-out_after : goal.returns-clause-out_after
returns-clause-out_after c =
    let same = same_replies _ _ _ _ c.of-replies.ensures.replies c.held.ensures in
    last_out c.args.reader c.args.piece.now _ same _ c.tallies-tallies.ensures.value _ _ _ _ _ _ c.loop-reply.invariant.0 c.in_default.ensures.steps.0
