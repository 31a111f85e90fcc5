use Rattle.std.proofs.Common.{◌≡◌, ◌<◌, length, Some, Ok, sym, refl, ap, ◌∙◌, subst, arith, rules}
use Rattle.std.proofs.lemmas.Result.{err_from_is_err_and}
use Rattle.std.specs.Option.{option_map}
use Rattle.grammar.proofs.Fitting.{bytes_told}
use Rattle.grammar.specs.Encodings.{AllBytes}
use Rattle.reading.specs.Books.{book_view, item_view, ItemView, world_seen, rule_seen}
use Rattle.reading.specs.Views.{rule_view}
use Rattle.reading.proofs.Parts.{known}
use Rattle.stores.specs.Begun.{begun}
use Rattle.stores.proofs.Opened.{Went, went, begin, world_more, rule_more, room_left, ends, refused_first, refused_later}
use Rattle.stores.proofs.begins.Begins.read.Goals as goal
use Rattle.stores.proofs.begins.Begins.read.Goals.{In-Some}

pub returns-in_err-book : goal.returns-in_err-book
returns-in_err-book c =
    let p = err_from_is_err_and c.from_residual.result c.from_residual.ensures.1 in
    record {
      value = refused_first begun c.from_residual.result _ _ p.1 p.2 c.args.bytes.now c.in_err-book.ensures;
      known = bytes_told c.args.bytes.now (known c.args.bytes.now c.type_inv.bytes);
    }

pub loop-item-init : goal.loop-item-init
loop-item-init c = begin c.args.bytes.now (book_view c.in_ok-book.book) (begun c.new-begins.result) c.new-begins.ensures c.in_ok-book.ensures

pub returns-in_err-item : goal.returns-in_err-item
returns-in_err-item c =
    let p = err_from_is_err_and c.from_residual-in_err-item.result c.from_residual-in_err-item.ensures.1 in
    record {
      value = refused_later begun c.from_residual-in_err-item.result _ _ p.1 p.2 c.args.bytes.now (book_view c.loop-item.book) (begun c.loop-item.begins) c.loop-item.invariant c.in_err-item.ensures.value;
      known = bytes_told c.args.bytes.now (known c.args.bytes.now c.type_inv.bytes);
    }

-- the book stands after the item
after : (c : In-Some) (v : ItemView) → item_view c.in-Some.item ≡ v → Went (book_view c.loop-item.book) (book_view c.item.new.self) v
after c v e =
    let h = c.in_ok-item.ensures in
    went (book_view c.loop-item.book) (book_view c.item.new.self) v
    (subst AllBytes (sym c.loop-item.invariant.same) (known c.args.bytes.now c.type_inv.bytes))
    (ap (λ x. Ok (Some x)) (sym e) ∙ ap (λ o. Ok (option_map item_view o)) (sym c.in-Some.is) ∙ h.value) h.after

pub overflow_cast-rule : goal.overflow_cast-rule
overflow_cast-rule c =
    let w = after (goal.at.overflow_cast-rule c).In-Some (rule_seen (rule_view c.in-Rule.rule)) (ap item_view c.in-Rule.is) in
    let low : c.in-Rule.rule.place < 65536 = omega (arith, w.at, w.inside, c.loop-item.invariant.short, ap length c.loop-item.invariant.same) in
    search rules

pub push-requires : goal.push-requires
push-requires c =
    let v = rule_seen (rule_view c.in-Rule.rule) in
    let w = after (goal.at.push-requires c).In-Some v (ap item_view c.in-Rule.is) in
    room_left c.args.bytes.now (book_view c.loop-item.book) (book_view c.item.new.self) (begun c.loop-item.begins) v c.loop-item.invariant w refl

pub loop-item-smaller-in-Rule : goal.loop-item-smaller-in-Rule
loop-item-smaller-in-Rule c = (after (goal.at.loop-item-smaller-in-Rule c).In-Some (rule_seen (rule_view c.in-Rule.rule)) (ap item_view c.in-Rule.is)).less

pub loop-item-preserved-in-Rule : goal.loop-item-preserved-in-Rule
loop-item-preserved-in-Rule c =
    let v = rule_seen (rule_view c.in-Rule.rule) in
    let w = after (goal.at.loop-item-preserved-in-Rule c).In-Some v (ap item_view c.in-Rule.is) in
    rule_more c.args.bytes.now (book_view c.loop-item.book) (book_view c.item.new.self) (begun c.loop-item.begins) v c.loop-item.invariant w
    c.in-Rule.rule.place (begun c.push.new.self) refl refl c.push.ensures

pub loop-item-smaller : goal.loop-item-smaller
loop-item-smaller c = (after (goal.at.loop-item-smaller c).In-Some (item_view c.in-Some.item) refl).less

pub loop-item-preserved : goal.loop-item-preserved
loop-item-preserved c =
    let v = world_seen c.in_default-item.field-0 c.in_default-item.field-1 in
    let w = after (goal.at.loop-item-preserved c).In-Some v (ap item_view c.in_default-item.is) in
    world_more c.args.bytes.now (book_view c.loop-item.book) (book_view c.item.new.self) (begun c.loop-item.begins) v c.loop-item.invariant w refl refl

pub returns : goal.returns
returns c =
    record {
      value = ends c.args.bytes.now (book_view c.loop-item.book) (begun c.loop-item.begins) c.loop-item.invariant
          (ap (λ o. Ok (option_map item_view o)) (sym c.in_default.is) ∙ c.in_ok-item.ensures.value);
      known = bytes_told c.args.bytes.now (known c.args.bytes.now c.type_inv.bytes);
    }
