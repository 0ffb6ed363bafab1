-- The number and the name of each layer.
use Rattle.std.specs.Prelude.{ℕ, List, codes}
use Rattle.faults.specs.declared.layer.Layer.{Layer}
use Rattle.faults.specs.declared.layer.Layer.TheVariants.{Token, Object, Section, Chain, Book, Store}

abbrev pub layer_number : Layer → ℕ
layer_number Token = 1
layer_number Object = 2
layer_number Section = 3
layer_number Chain = 4
layer_number Book = 5
layer_number Store = 6

abbrev pub layer_words : Layer → List ℕ
layer_words Token = codes "token"
layer_words Object = codes "object"
layer_words Section = codes "section"
layer_words Chain = codes "chain"
layer_words Book = codes "book"
layer_words Store = codes "store"
