-- Going through a text piece by piece.
use Rattle.std.proofs.Common.{◌≡◌, ℕ, ◌-◌, ◌<◌, ◌≤◌, false, List, [], ◌∷◌, ◌++◌, length, refl, sym, ap, ◌∙◌, subst, arith}
use Rattle.std.specs.Prelude.{None, Result, IfOk}
use Rattle.std.specs.declared.result.Result.TheVariants.{Ok, Err}
use Rattle.wef_base.specs.declared.tree.Charset.{Charset}
use Rattle.wef_base.specs.declared.tree.Element.{Element}
use Rattle.wef_tree_reading.specs.Building.{nothing}
use Rattle.wef_xml.specs.Decoding.{decoded, line_ends, place}
use Rattle.wef_xml.specs.Good.{IsGoodTree}
use Rattle.wef_tree_reading.specs.Laws.{IsLongest}
use Rattle.wef_tree_pieces.specs.Pieces.{piece_at}
use Rattle.std.specs.Borrow.{Bor}
use Rattle.wef_tree_reading.specs.Runs.{Walks}
use Rattle.wef_tree_reading.specs.Spelling.{Leads, Steps, Reaches, ReadsText, ReadsTree, Stops, StopsAt, fault_at, kind_of, IsStuck}
use Rattle.wef_tree_reading.specs.declared.building.Builder.{Builder}
use Rattle.wef_tree_reading.specs.declared.faults.FaultKind.{FaultKind}
use Rattle.wef_tree_reading.specs.declared.faults.FaultKind.TheVariants.{Xml, Deep, Refused as Forbidden}
use Rattle.wef_tree_reading.specs.declared.faults.Stop.{Stop}
use Rattle.wef_tree_reading.specs.declared.faults.Stop.TheVariants.{NoMemory, Fault}
use Rattle.wef_xml.specs.declared.faults.TreeFault.{TreeFault}
use Rattle.wef_tree_pieces.specs.declared.pieces.Piece.{Piece}
use Rattle.wef_tree_reading.proofs.GoodTrees.{spells_good}
use Rattle.wef_tree_reading.proofs.Readings.{end_is_stuck, goes_on_to_the_fault}
use Rattle.wef_tree_pieces.proofs.Shorter.{piece_shorter}

-- good pieces behind others
pub leads_further :
    (ps qs : List Piece) (b : Builder) (text : List ℕ) (c : Builder) (rest : List ℕ) (d : Builder) (behind : List ℕ) →
    Leads b ps text c rest → Leads c qs rest d behind → Leads b (ps ++ qs) text d behind
leads_further [] qs b text c rest d behind leads more =
    let P : Builder → Type 0 = λ x. Leads x qs text d behind in
    let Q : List ℕ → Type 0 = λ x. Leads c qs x d behind in
    subst P (sym leads.0) (subst Q (sym leads.1) more)
leads_further (p ∷ ps) qs b text c rest d behind leads more =
    (leads.0, leads.1, leads.2, leads.3, leads_further ps qs leads.0 leads.1 c rest d behind leads.4 more)

pub reaches_further :
    (text rest : List ℕ) (c d : Builder) (qs : List Piece) (behind : List ℕ) → Reaches text c rest → Leads c qs rest d behind → Reaches text d behind
reaches_further text rest c d qs behind reaches more = (reaches.0 ++ qs, leads_further reaches.0 qs nothing text c rest d behind reaches.1 more)

-- what one step leads to, as what one or more lead to
pub one_step : (before after : Builder) (text : List ℕ) (result : Result (Bor (List ℕ)) Stop) → Steps before after text result → Walks before after text result
one_step before after text (Ok behind) step =
    (step.0 ∷ [], (after, behind.now, step.1, step.2, (refl, refl)), piece_shorter text step.0 behind.now step.1)
one_step before after text (Err NoMemory) step = tt
one_step before after text (Err (Fault kind left)) step = step

leads_shorter : (ps : List Piece) (b : Builder) (text : List ℕ) (c : Builder) (rest : List ℕ) → Leads b ps text c rest → length rest ≤ length text
leads_shorter [] b text c rest leads = let e = ap length leads.1 in omega arith
leads_shorter (p ∷ ps) b text c rest leads =
    let here = piece_shorter text p leads.1 leads.2 in
    let further = leads_shorter ps leads.0 leads.1 c rest leads.4 in
    omega arith

-- what is left where reading stops is a part of the text
pub stops_within : (text rest : List ℕ) (kind : FaultKind) → Stops text kind rest → length rest ≤ length text
stops_within text rest kind stops = leads_shorter stops.reached.0 nothing text stops.there rest stops.reached.1

nothing_stands : (b : Builder) → Xml ≡ kind_of b []
unfolding piece_at
nothing_stands b = refl

empty_if : (rest : List ℕ) → length rest ≡ 0 → rest ≡ []
empty_if [] e = refl
empty_if (c ∷ cs) e = absurd (omega arith)

-- the text is read to its end, and gives no root
pub ends_rootless :
    (text rest : List ℕ) (b : Builder) → Reaches text b rest → length rest ≡ 0 → b.root ≡ None → (left : List ℕ) × Stops text Xml left × (0 ≡ length left)
ends_rootless text rest b reaches empty rootless =
    let P : List ℕ → Type 0 = λ r. Reaches text b r in
    ([], record { there = b; reached = subst P (empty_if rest empty) reaches; stuck = end_is_stuck b; rootless = λ e. rootless; kind_is = nothing_stands b }, refl)

-- no piece is good where something is left
pub stuck_here :
    (text rest : List ℕ) (b : Builder) (kind : FaultKind) (left : ℕ) → Reaches text b rest → 0 < length rest → IsStuck b rest → kind ≡ kind_of b rest →
    left ≡ length rest → (r : List ℕ) × Stops text kind r × (left ≡ length r)
stuck_here text rest b kind left reaches some stuck kind_is left_is =
    (rest, record { there = b; reached = reaches; stuck = stuck; rootless = λ e. absurd (let f = ap length e in omega arith); kind_is = kind_is }, left_is)

pub faulty : (charset : Charset) (bytes : List ℕ) (kind : FaultKind) (at : ℕ) → StopsAt charset bytes kind at → ReadsTree charset bytes (Err (fault_at kind at))
faulty charset bytes Xml at stops = stops
faulty charset bytes Deep at stops = stops
faulty charset bytes Forbidden at stops = stops

pub good_read : (charset : Charset) (bytes : List ℕ) (result : Result Element TreeFault) → ReadsTree charset bytes result → IfOk result (λ root. IsGoodTree root)
good_read charset bytes (Ok root) h = spells_good charset bytes root h
good_read charset bytes (Err e) h = tt

-- what is left where a text stops is a part of it
pub within : (text : List ℕ) (stop : Stop) → ReadsText text (Err stop) → (kind : FaultKind) (left : ℕ) → stop ≡ Fault kind left → left ≤ length text
within text stop reads kind left is =
    let P : Stop → Type 0 = λ s. ReadsText text (Err s) in
    let found = subst P is reads in
    let most = stops_within text found.0 kind found.1 in
    let same = found.2 in
    omega arith

-- a fault of the text is one of the bytes
pub answers :
    (charset : Charset) (bytes characters text : List ℕ) (stop : Stop) → decoded charset bytes ≡ Ok characters → text ≡ line_ends false characters →
    ReadsText text (Err stop) → (kind : FaultKind) (left at : ℕ) → stop ≡ Fault kind left → at ≡ place charset bytes characters (length text - left) →
    ReadsTree charset bytes (Err (fault_at kind at))
answers charset bytes characters text stop decodes is reads kind left at stop_is at_is =
    let P : Stop → Type 0 = λ s. ReadsText text (Err s) in
    let found = subst P stop_is reads in
    let Q : List ℕ → Type 0 = λ t. Stops t kind found.0 in
    faulty charset bytes kind at (record {
      characters = characters;
      decodes = decodes;
      rest = found.0;
      stops = subst Q is found.1;
      at_is = at_is ∙ (λ i. place charset bytes characters (length (is i) - found.2 i));
    })

pub is_longest : IsLongest
is_longest text rest left kind b stops reaches =
    let more = goes_on_to_the_fault text rest left kind b stops reaches in
    leads_shorter more.0 b left stops.there rest more.1
