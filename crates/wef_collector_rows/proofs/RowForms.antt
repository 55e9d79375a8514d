-- The form of a row, where its kind is known.
use Rattle.std.proofs.Common.{◌≡◌, ℕ, sym, ap}
use Rattle.wef_keeper.specs.declared.keys.Row.{Row}
use Rattle.wef_collector_rows.specs.Forms.{is_bookmark_row, is_formed, is_subscription_row}

-- a row, as one of a kind
abbrev of_kind : Row → ℕ → Row
of_kind row kind = record {
  key = record { kind = kind; sub = row.key.sub; source = row.key.source; channel = row.key.channel; number = row.key.number };
  value = row.value;
  body = row.body;
}

pub bookmark_formed : (row : Row) → row.key.kind ≡ 2 → is_bookmark_row row ≡ is_formed row
unfolding is_formed is_bookmark_row
bookmark_formed row kind = sym (ap (λ (n : ℕ). is_formed (of_kind row n)) kind)

pub subscription_formed : (row : Row) → row.key.kind ≡ 1 → is_subscription_row row ≡ is_formed row
unfolding is_formed is_subscription_row
subscription_formed row kind = sym (ap (λ (n : ℕ). is_formed (of_kind row n)) kind)
