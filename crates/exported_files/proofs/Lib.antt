mod PlaceByPlace
