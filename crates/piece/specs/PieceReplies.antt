-- The replies to the lines that end in a piece, as the code walks through them. No public contract rests on these
-- definitions: they serve the functions inside the crate.
use Rattle.std.specs.Prelude.{◌≡◌, ℕ, List, [], ◌∷◌, ◌++◌, Option, Some, None, MatchOption, Result}
use Rattle.lines.specs.declared.Refusal.{Refusal}
use Rattle.replies.specs.declared.Answered.{Answered}
use Rattle.replies.specs.Reply.{Reply, reply_of}
use Rattle.scan.specs.Complete.{lines, rest}
use Rattle.state.specs.Holding.{as_held}
use Rattle.piece.specs.Piece.{replies}
use Rattle.piece.specs.declared.piece_replies.PieceReplies.{PieceReplies}

-- the reply to the first line, where it is still to come, and then the others
abbrev pub before_others : Option (Result Answered Refusal) → List Reply → List Reply
before_others None rs = rs
before_others (Some r) rs = reply_of r ∷ rs

-- the replies that are still to come
abbrev pub to_come : PieceReplies → List Reply
to_come p = before_others p.first (replies (lines p.rest.now))

-- what is held after the last of them, and what would be if there were none
abbrev pub to_hold : PieceReplies → List ℕ
to_hold p = as_held (p.held ++ rest p.rest.now)

abbrev pub unfinished : PieceReplies → List ℕ
unfinished p = as_held (p.held ++ p.rest.now)

-- one step: the first of the replies to come; or none comes, and the unfinished line is what was to be held
abbrev pub NextReply : PieceReplies → Option (Result Answered Refusal) → PieceReplies → Type 0
NextReply p r q =
    MatchOption r ((to_come p ≡ []) × (unfinished q ≡ to_hold p))
    (λ reply. (to_come p ≡ reply_of reply ∷ to_come q) × (to_hold q ≡ to_hold p))
