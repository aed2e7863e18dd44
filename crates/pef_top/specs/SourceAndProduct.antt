use Rattle.pef_top.specs.Names.{numbers_of, Index, Side, Command, Build, Query, Answer, Inspect, Generate, Migrate, Audit, Blocks, BlockQuery, Remap, Segments, Export, IntervalQuery, Merge, Alike, Wide, Source, IndexAt, SideAt, IndexesAt, Product, Replies, Text, File, Files, Nothing, CollectionAt, MapAt, answer_format}

-- what a command reads
abbrev pub source_of : Command → Source
source_of (Build base index format) = CollectionAt (numbers_of format) base
source_of (Query index plan) = IndexAt index
source_of (Answer base plan) = CollectionAt (numbers_of answer_format) base
source_of (Inspect index) = IndexAt index
source_of (Generate seed n t) = Nothing
source_of (Migrate from to kind) = IndexAt from
source_of (Audit index) = IndexAt index
source_of (Blocks index side) = IndexAt index
source_of (BlockQuery index side) = SideAt index side
source_of (Remap base map to) = MapAt base map
source_of (Segments indexes plan) = IndexesAt Alike indexes
source_of (Export index base) = IndexAt index
source_of (IntervalQuery index) = IndexAt index
source_of (Merge indexes to) = IndexesAt Wide indexes

-- what it makes
abbrev pub product_of : Command → Product
product_of (Build base index format) = File Index
product_of (Query index plan) = Replies
product_of (Answer base plan) = Replies
product_of (Inspect index) = Text
product_of (Generate seed n t) = Text
product_of (Migrate from to kind) = File Index
product_of (Audit index) = Text
product_of (Blocks index side) = File Side
product_of (BlockQuery index side) = Replies
product_of (Remap base map to) = Files
product_of (Segments indexes plan) = Replies
product_of (Export index base) = Files
product_of (IntervalQuery index) = Replies
product_of (Merge indexes to) = File Index
