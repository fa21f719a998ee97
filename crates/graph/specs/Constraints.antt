-- Constraints 1 to 6 of document 000 (sections 3.4 and 5.1), cut at W as document 01 cuts them, one level-0 list for each component, and connected components.
-- A side stands for two constraints: 1, 3 and 5 are side right, 2, 4 and 6 side left. Assumes nothing.
use Rattle.std.specs.Prelude.{ℕ, zero, suc, ◌≤◌, ◌<◌, ◌≡◌, ◌↔◌, T}
use Rattle.std.proofs.Math.Option.{Option, none, some}
use Rattle.graph.specs.Side.{Side, opp, on_side}
use Rattle.graph.specs.Vector.{shared}
use Rattle.graph.specs.Graph.{Lots, Links}

-- the lot that a link names, followed by what comes after it
unfoldable pub next : Option ℕ → (ℕ → Option ℕ) → Option ℕ
next none f = none
next (some y) f = f y

-- the j-th iterate of the links of level k on side d, from x; x itself for 0
unfoldable pub iterate : Links → (k : ℕ) (d : Side) (j x : ℕ) → Option ℕ
iterate L k d zero x = some x
iterate L k d (suc j) x = next (L x k d) (iterate L k d j)

-- x is a node
abbrev pub Node : Lots → ℕ → Type 0
Node G x = T (G.member x)

-- x and z agree in the first k + 1 bits
abbrev pub Agree : (W : ℕ) → Lots → (k x z : ℕ) → Type 0
Agree W G k x z = k < shared W (G.vector x) (G.vector z)

module _ (W : ℕ) (G : Lots) (L : Links) where
  -- none of the first j iterates agrees with x in one bit more
  abbrev pub NoneBefore : (k x : ℕ) (d : Side) (j : ℕ) → Type 0
  NoneBefore k x d j = (i z : ℕ) → i < j → iterate L k d (suc i) x ≡ some z → Agree W G k x z → ⊥

  pub record Constraints : Type 0 where
    -- the links of a node name nodes
    pub within : (x k y : ℕ) (d : Side) → Node G x → k ≤ W → L x k d ≡ some y → Node G y
    -- 1 and 2: a link lies on its side
    pub order : (x k y : ℕ) (d : Side) → Node G x → k ≤ W → L x k d ≡ some y → T (on_side d (G.number x) (G.number y))
    -- 3 and 4: the link back
    pub back : (x k y : ℕ) (d : Side) → Node G x → k ≤ W → L x k d ≡ some y → L y k (opp d) ≡ some x
    -- 5 and 6: the link one level up is the first iterate that agrees in one bit more
    pub first : (x k y j : ℕ) (d : Side) → Node G x → k < W → iterate L k d (suc j) x ≡ some y → Agree W G k x y → NoneBefore k x d j
        → L x (suc k) d ≡ some y
    -- 5 and 6, else: none
    pub last : (x k : ℕ) (d : Side) → Node G x → k < W → ((j : ℕ) → NoneBefore k x d j) → L x (suc k) d ≡ none

  -- one level-0 list for each component
  pub record OneList : Type 0 where
    pub joined : (x y : ℕ) → Node G x → Node G y → G.component x ≡ G.component y → (d : Side) × (j : ℕ) × (iterate L 0 d j x ≡ some y)
    pub apart : (x y j : ℕ) (d : Side) → Node G x → iterate L 0 d j x ≡ some y → G.component x ≡ G.component y

  -- joined by links among the nodes, directly or through others: a connected component
  pub data Joined : ℕ → ℕ → Type 0 where
    same : {x : ℕ} → Joined x x
    linked : {x y k : ℕ} {d : Side} → Node G x → Node G y → k ≤ W → L x k d ≡ some y → Joined x y
    turned : {x y : ℕ} → Joined x y → Joined y x
    through : {x y z : ℕ} → Joined x y → Joined y z → Joined x z

  -- the labels of the lots are the connected components of the links
  pub record Labels : Type 0 where
    pub label : (x y : ℕ) → Node G x → Node G y → (G.component x ≡ G.component y) ↔ Joined x y
