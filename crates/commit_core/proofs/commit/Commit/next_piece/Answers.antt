use Rattle.std.proofs.Common.{◌≡◌, Option, Some, None, sym, ap, subst, ◌∙◌}
use Rattle.std.specs.Option.{IfSome}
use Rattle.commit_core.specs.Committing.{Committing}
use Rattle.commit_core.specs.Claiming.{IsCommitting}
use Rattle.commit_core.specs.LedgerBook.{next_of}
use Rattle.commit_core.specs.PieceSets.{IsPieceIn}
use Rattle.commit_core.specs.Sets.{stream_lengths}
use Rattle.commit_core.specs.declared.piece.Piece.{Piece}
use Rattle.commit_core.proofs.ClaimHolds.{next_in}
use Rattle.commit_core.proofs.commit.Commit.next_piece.Goals as goal

piece_in : (c : Committing) (o : Option Piece) → IsCommitting c → o ≡ next_of c.book → IfSome o (IsPieceIn c.set.desc.scheme c.set.desc.nodes c.set.desc.ranks c.set.desc.size (stream_lengths c.set.files))
piece_in c None well is = tt
piece_in c (Some piece) well is = next_in c piece well (sym is)

pub returns-in-Pieces-clause-piece : goal.returns-in-Pieces-clause-piece
returns-in-Pieces-clause-piece c =
    piece_in c.args.self.now c.next.result (subst (λ (x : Committing). IsCommitting x) c.self.view_is c.self.invariant)
    (c.next.ensures ∙ ap (λ (x : Committing). next_of x.book) c.self.view_is)
