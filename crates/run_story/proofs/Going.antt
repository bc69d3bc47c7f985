-- for crates above: operations one behind the other
use Rattle.std.proofs.Common.{ℕ, Bool, List, [], ◌∷◌, ◌++◌, refl, sym, subst₂}
use Rattle.tm_script.specs.declared.syntax.Op.{Op}
use Rattle.tm_report.specs.declared.lines.Line.{Line}
use Rattle.run_story.specs.Shares.{Known, Standing, TellsOp, TellsOps}

module _ (known : Known) (now cpu : ℕ) (online : Bool) where
  -- no operation
  pub none : (s : Standing) → TellsOps known now cpu online [] s s []
  unfolding TellsOps
  none s = (refl, refl)

  -- one operation more
  pub one_more : (ops : List Op) (op : Op) (old mid new : Standing) (ls : List Line) (l : Line)
      → TellsOps known now cpu online ops old mid ls → TellsOp known now cpu online op mid new l
      → TellsOps known now cpu online (ops ++ op ∷ []) old new (ls ++ l ∷ [])
  unfolding TellsOps
  one_more [] op old mid new ls l h next =
      subst₂ (λ (xs : List Line) (s : Standing). TellsOps known now cpu online (op ∷ []) s new
      (xs ++ l ∷ [])) (sym h.0) h.1 (new, next, (refl, refl))
  one_more (o ∷ ops) op old mid new [] l h next = absurd h
  one_more (o ∷ ops) op old mid new (x ∷ xs) l h next = (
    h.0,
    h.1,
    one_more ops op h.0 mid new xs l h.2 next,
  )
