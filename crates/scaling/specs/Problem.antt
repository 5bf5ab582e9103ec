-- A problem's matrix C as the code writes it, and what its run begins and ends with.
use Rattle.std.specs.Prelude.{◌≡◌, true, List, ℕ, ◌+◌, ◌*◌, ◌/◌, ◌%◌, ◌<◌, ◌≤◌, length, ℤ, pos, Result, Ok, Err}
use Rattle.whole.specs.Lists.{nth}
use Rattle.whole.specs.Matrix.{δ}
use Rattle.rules.specs.Problem.{Problem, N, C, columns}
use Rattle.rules.specs.Steps.{start}
use Rattle.rules.specs.Stages.{run}
use Rattle.checks.specs.declared.Refusal.{Refusal}
use Rattle.checks.specs.declared.Refusal.TheVariants.{Overflow}
use Rattle.scaling.specs.declared.run.Outcome.{Outcome}
use Rattle.scaling.specs.declared.work.Work.{Work}
use Rattle.scaling.specs.WorkState.{Same}

-- an entry of C
pub record InC (P : Problem) (i c : ℕ) : Type 0 where
  pub row : i < P.m
  pub column : c < N P

-- t holds C, row after row; what stands after it is as it was
pub record HoldsC (P : Problem) (t t₀ : List ℤ) : Type 0 where
  pub entries : (k : ℕ) → k < P.m * N P → nth t k ≡ C P (k / N P) (k % N P)
  pub rest : (k : ℕ) → P.m * N P ≤ k → nth t k ≡ nth t₀ k
  pub same : length t ≡ length t₀

-- a list of zeros has 1 on the diagonal of n by n entries; what stands after them is as it was
pub record HoldsIdentity (n : ℕ) (a a₀ : List ℤ) : Type 0 where
  pub entries : ((k : ℕ) → nth a₀ k ≡ pos 0) → (i j : ℕ) → i < n → j < n → nth a (i * n + j) ≡ δ i j
  pub rest : (k : ℕ) → n * n ≤ k → nth a k ≡ nth a₀ k
  pub same : length a ≡ length a₀

-- what the whole run begins with
abbrev pub Starts : Problem → Work → Type 0
Starts P r = Same P.m (N P) r (start (columns P))

-- what the whole run ends with: what the definition's does, or refusal 7 where that is over
abbrev pub Ran : Problem → Result Outcome Refusal → Type 0
Ran P (Ok r) = Same P.m (N P) r.work (run P).state × (r.rank ≡ (run P).rank)
Ran P (Err e) = (e ≡ Overflow) × ((run P).state.over ≡ true)
