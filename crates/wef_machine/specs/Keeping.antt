-- What settling keeps, over any world: what each of its steps keeps.
use Rattle.wef_machine.specs.Settling.{Steps, settle}

-- What each step keeps up to the polls.
pub record AreBeginning (W N : Type 0) (f : Steps W N) (P : W → Type 0) : Type 0 where
  pub releases : (w : W) → P w → P (f.release w)
  pub loses : (w : W) → P w → P (f.lose_all w)
  pub asks : (s : N) (w : W) → P w → P (f.ask s w).0
  pub requests : (w : W) → P w → P (f.request w).0

-- what each poll keeps
abbrev pub ArePolling : (W N : Type 0) → Steps W N → (W → Type 0) → Type 0
ArePolling W N f P = (s u : N) (w : W) → P w → P (f.poll s u w).0

-- what each step keeps
pub record AreKeeping (W N : Type 0) (f : Steps W N) (P : W → Type 0) : Type 0 where
  pub begin : AreBeginning W N f P
  pub polls : ArePolling W N f P

-- what each step keeps, settling keeps
abbrev pub SettlingKeeps : (W N : Type 0) → (W → Type 0) → Type 0
SettlingKeeps W N P = (f : Steps W N) → AreKeeping W N f P → (w : W) → P w → P (settle f w)
