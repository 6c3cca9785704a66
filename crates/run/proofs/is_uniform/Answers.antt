use borrow.Author.Rules.{rules}
use native.Mathlib.Omega.{arith}
use Rattle.std.proofs.Common.{inl, inr}
use Rattle.run.proofs.JoinReturns.{uniform_none, uniform_mixed, uniform_bare, uniform_other}
use Rattle.run.proofs.is_uniform.Goals as goal

pub returns-in-0 : goal.returns-in-0
returns-in-0 c = elim c.in-0.is [ inl h ↦ uniform_none _ _ h | inr h ↦ uniform_mixed _ _ h ]

pub returns-in_default : goal.returns-in_default
returns-in_default c = uniform_other _ _ (λ e. grind arith) (λ e. grind arith) (λ e. grind arith) (λ e. grind arith) (λ e. grind arith)

pub returns-in_default-2 : goal.returns-in_default-2
returns-in_default-2 c = uniform_other _ _ (λ e. grind arith) (λ e. grind arith) (λ e. grind arith) (λ e. grind arith) (λ e. grind arith)

pub returns-in-1 : goal.returns-in-1
returns-in-1 c = uniform_bare _ _ (inl c.in-1.is)

pub returns-in-1-2 : goal.returns-in-1-2
returns-in-1-2 c = uniform_bare _ _ (inr (search rules))
