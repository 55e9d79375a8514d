-- What the target of a request is for (RFC 9112, 3.2).
use Rattle.std.specs.Prelude.{ℕ, ◌==◌, nat_lt, length, Bool, ◌&&◌, List, [], ◌∷◌, codes, Option, Some, None, if◌then◌else◌}
use Rattle.std.specs.List.{before_first}
use Rattle.std.specs.Option.{option_and_then, option_map}
use Rattle.wef_base.specs.Words.{decoded, parts}
use Rattle.wef_http_heads.specs.declared.targets.Side.{Side}
use Rattle.wef_http_heads.specs.declared.targets.Side.TheVariants.{Collector, Source}
use Rattle.wef_http_heads.specs.declared.targets.Target.{Target}
use Rattle.wef_http_heads.specs.declared.targets.Target.TheVariants.{Manager, Delivery, Root}
use Rattle.wef_http_heads.specs.Fields.{is_alike}

-- the sign before a query
abbrev pub is_question_mark : ℕ → Bool
is_question_mark b = b == 63

-- the path of a target: what stands before a query
abbrev pub path_of : List ℕ → List ℕ
path_of target = before_first is_question_mark target

-- a text that isn't empty
abbrev pub filled : List ℕ → Option (List ℕ)
filled text = if nat_lt 0 (length text) then Some text else None

-- the name that a segment says, percent-decoded (RFC 3986, 2.1)
abbrev pub decoded_name : List ℕ → Option (List ℕ)
decoded_name segment = option_and_then filled (decoded segment)

-- batches for the subscription and of the source that two segments say
abbrev pub delivery_of : List ℕ → List ℕ → Option Target
delivery_of sub source =
    option_and_then (λ u. option_map (λ s. Delivery u s) (decoded_name source)) (decoded_name sub)

-- a source itself
abbrev pub root_at : List ℕ → Option Target
root_at root = if is_alike root (codes "wsman") then Some Root else None

-- the subscriptions for a source
abbrev pub manager_at : List ℕ → List ℕ → List ℕ → Option Target
manager_at root manager name =
    if is_alike root (codes "wsman") && is_alike manager (codes "SubscriptionManager") && is_alike name (codes "WEC") then Some Manager else None

-- batches
abbrev pub delivery_at : List ℕ → List ℕ → List ℕ → List ℕ → Option Target
delivery_at root subscriptions sub source =
    if is_alike root (codes "wsman") && is_alike subscriptions (codes "subscriptions") then delivery_of sub source else None

-- what the segments behind the first slash of a path are for; fixed ones are in letters of either case
abbrev pub target_behind : List (List ℕ) → Option Target
target_behind (root ∷ []) = root_at root
target_behind (root ∷ manager ∷ name ∷ []) = manager_at root manager name
target_behind (root ∷ subscriptions ∷ sub ∷ source ∷ []) = delivery_at root subscriptions sub source
target_behind _ = None

-- what the parts of a path around its slashes are for: it begins with one
abbrev pub target_of : List (List ℕ) → Option Target
target_of ([] ∷ segments) = target_behind segments
target_of _ = None

-- whether an end serves what is asked for: a collector all but itself, a source itself alone
abbrev pub serves : Side → Target → Bool
serves Collector Root = Bool.false
serves Collector _ = Bool.true
serves Source Root = Bool.true
serves Source _ = Bool.false

-- what is for an end that serves it
abbrev pub served : Side → Target → Option Target
served side target = if serves side target then Some target else None

-- What a target is for, where the end serves that.
unfoldable pub target_at : Side → List ℕ → Option Target
target_at side target = option_and_then (served side) (target_of (parts 47 (path_of target)))
