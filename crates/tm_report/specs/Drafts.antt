-- a text that is written line by line
use Rattle.std.specs.Prelude.{◌≡◌, ℕ, List, ◌++◌, Result, OnOk}

-- the lines that are finished, and what stands of the next one
pub record Written : Type 0 where
  pub finished : List ℕ
  pub begun : List ℕ

-- after Ok the text stands behind what was begun; the finished lines stand after any answer
pub record Adds {A E : Type 0} (result : Result A E) (old new : Written) (text : List ℕ)
    : Type 0 where
  pub begun : OnOk result (new.begun ≡ old.begun ++ text)
  pub finished : new.finished ≡ old.finished
